-- The kinds of fact.
pub mod Kinds
