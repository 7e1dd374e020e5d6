pub mod Cases
pub mod Lists
pub mod Stores
pub mod Table
