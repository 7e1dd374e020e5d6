-- What the calendar means.
pub mod Calendar
pub mod Dates
