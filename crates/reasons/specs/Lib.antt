-- What the reason of a reading is.
pub mod Quarrels
pub mod Reasons
pub mod Private
