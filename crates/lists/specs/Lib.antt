-- What reports on a list of texts have in common.
pub mod Answers
pub mod Lines
pub mod Parts
pub mod Putting
