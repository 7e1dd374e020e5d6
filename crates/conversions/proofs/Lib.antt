-- Laws of what a % begins. For the crates above: `Letters` (sets of letters), `Pieces` (what stands after a %), `Rows` and `Small` (what a
-- row holds), `Seconds` (what is converted as s), `Sets` (the code's sets of letters), `Styles` (flags and widths).
pub mod Letters
pub mod Pieces
pub mod Rows
pub mod Seconds
pub mod Sets
pub mod Small
pub mod Styles
