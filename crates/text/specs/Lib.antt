-- What the text layer means: digits, filling, white space.
pub mod Digits
pub mod Fill
pub mod Space
