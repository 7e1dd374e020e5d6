-- What the reader means.
pub mod Answers
pub mod Private
