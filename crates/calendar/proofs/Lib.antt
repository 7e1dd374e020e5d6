pub mod Cycle
pub mod Dates
pub mod Sum
pub mod Years
pub mod Months
pub mod Weeks
pub mod Ranges
