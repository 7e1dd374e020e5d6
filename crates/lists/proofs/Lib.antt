-- Laws of lists, their lines and what is put into a buffer.
pub mod Begun
pub mod Figures
pub mod Formats
pub mod Listing
pub mod NextLine
pub mod Parts
pub mod Puts
pub mod Splitting
pub mod Writing
