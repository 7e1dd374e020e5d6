pub mod Cases
pub mod Packing
pub mod Offsets
pub mod Order
pub mod Rules
pub mod Sheets
pub mod Testing
