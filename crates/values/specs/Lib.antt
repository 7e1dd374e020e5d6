-- What a moment is and which value each kind of fact has for it.
pub mod Moments
pub mod Offsets
pub mod Values
