-- What the engines that look for the day give, and what they work with.
pub mod Engines
pub mod Private
