pub mod ColumnCases
pub mod Examined
pub mod NameCases
pub mod ReasonCases
pub mod Starred
pub mod Zones
