-- What the report on the weeks of a list says.
pub mod Cases
pub mod Counting
pub mod Private
pub mod Texts
pub mod Weeks
