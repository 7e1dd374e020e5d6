-- Laws that the proofs of several functions cite, and that callers may cite.
pub mod Lengths
pub mod Offsets
