-- Sheets and lists of them on numbers and slices, as C sees them.
pub mod Cases
pub mod Sheets
