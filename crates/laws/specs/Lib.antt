-- Definitions that the specifications of several crates cite.
pub mod Bytes
pub mod Lists
pub mod Stores
