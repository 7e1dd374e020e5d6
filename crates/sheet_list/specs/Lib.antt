-- What a list of sheets is, its table of weeks, and how sheets are added.
pub mod Adding
pub mod Ascending
pub mod Cases
pub mod Private
pub mod Rules
pub mod Tallies
pub mod Weeks
