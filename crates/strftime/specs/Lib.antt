-- What the writer means.
pub mod Private
pub mod Writing
