-- What a % begins: the conversions and their rows, the composites, and what stands after a %.
pub mod Conversions
pub mod Pieces
pub mod Private
