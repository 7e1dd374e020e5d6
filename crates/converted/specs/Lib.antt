-- What a conversion writes.
pub mod Converted
pub mod Zones
