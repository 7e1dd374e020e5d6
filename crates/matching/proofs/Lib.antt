-- Laws of matching. `FirstSaid`, `Sound`, `Told` and `Walk` are for the crates above: where a kind was first said, what an element says and
-- where, the range of each kind, and how the elements are read one after the other.
pub mod FirstSaid
pub mod Lengths
pub mod Sound
pub mod Told
pub mod Walk
pub mod Ways
pub mod Zoned
