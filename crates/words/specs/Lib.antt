-- What the words of values are.
pub mod Words
