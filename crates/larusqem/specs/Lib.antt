-- What the C functions return, and what they leave in the slices that they are lent.
pub mod Cases
pub mod Dates
pub mod Packed
pub mod Words
