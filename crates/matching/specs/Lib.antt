-- What it means to match a text to the elements of a format.
pub mod Zones
pub mod Elements
pub mod Steps
pub mod Extents
