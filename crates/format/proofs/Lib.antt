-- Laws of the format layer. For the crates above: `Bound` (how many elements a format opens to), `Elements` (what they are), `Entries`
-- (what counts as one), `Opened` (what the answer says), `Pieces` (what stands first), `Refused` (where the first bad % is), `Sides` (the
-- writer's opening and the reader's).
pub mod Bound
mod Cases
pub mod Elements
pub mod Entries
pub mod Entry
pub mod Openings
pub mod Pieces
pub mod Refused
pub mod Sides
pub mod Turns
