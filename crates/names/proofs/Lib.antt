-- Laws that the proofs of several functions cite, and that callers may cite.
pub mod Cased
pub mod Forms
pub mod Goes
pub mod Middles
pub mod Rows
pub mod Shorts
pub mod Table
