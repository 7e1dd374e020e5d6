-- Laws that the proofs of several functions cite, and that callers may cite.
pub mod Decimals
pub mod Fill
pub mod ReadBack
pub mod Spaces
