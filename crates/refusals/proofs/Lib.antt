-- Laws that the proofs of several functions cite.
pub mod Answers
pub mod Cases
pub mod Graphic
pub mod Labels
pub mod Lengths
pub mod Marked
pub mod Numbering
pub mod Over
pub mod Phrases
pub mod Whole
