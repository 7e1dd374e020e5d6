-- The reasons of readings on numbers and slices, as C sees them.
pub mod Cases
pub mod Reasons
