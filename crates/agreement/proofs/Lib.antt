pub mod Demand
pub mod Every
pub mod SoFar
pub mod Tells
pub mod Through
