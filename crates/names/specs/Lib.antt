-- What names mean: letter case, tables of names and of their forms.
pub mod Case
pub mod Distinct
pub mod Names
pub mod Naming
pub mod Rows
