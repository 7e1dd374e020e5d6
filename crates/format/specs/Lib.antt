-- What a format means: opening it into elements.
pub mod Opening
pub mod Private
