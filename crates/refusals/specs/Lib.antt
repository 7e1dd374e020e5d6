-- What is said of the texts of a list that are refused (RULES 9.2).
pub mod Over
pub mod Shown
pub mod Marks
pub mod Words
pub mod Sentences
pub mod Blocks
pub mod Cases
pub mod Private
