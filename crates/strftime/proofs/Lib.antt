-- Laws that the proofs of several functions cite, and that callers may cite.
pub mod Complete
pub mod Lengths
pub mod Longest
pub mod Loops
pub mod Order
pub mod Parts
pub mod Places
pub mod Offsets
