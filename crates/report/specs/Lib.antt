-- What the report on a list of texts says.
pub mod Line
pub mod Report
