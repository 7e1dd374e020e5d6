-- Laws that callers may cite.
pub mod Ranges
pub mod Signed
pub mod Seconds
