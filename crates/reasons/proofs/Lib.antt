-- Laws of reasons. `Minimal` is for the crates above: what the kinds that are left by trying each tell.
pub mod Minimal
pub mod Named
pub mod Places
pub mod Ranges
pub mod Trying
pub mod Answers
pub mod Words
