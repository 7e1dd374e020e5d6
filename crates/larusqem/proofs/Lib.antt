-- Laws that the proofs of the functions cite.
pub mod Cases
pub mod Engines
pub mod Ways
