-- What a sheet is, and its word.
pub mod Cases
pub mod Packing
pub mod Private
pub mod Rules
pub mod Sheets
