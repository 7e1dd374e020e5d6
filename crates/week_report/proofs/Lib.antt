-- Laws that the proofs of several functions cite.
pub mod Cases
pub mod Gathering
pub mod Lengths
pub mod Showing
pub mod Tallying
pub mod Whole
