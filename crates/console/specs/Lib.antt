-- What the arguments of a program ask for.
pub mod Arguments
