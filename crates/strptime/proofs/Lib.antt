-- Laws of the reader. `Numbers`, `OneAnswer`, `Opened` and `Places` are for the crates above: what is shown with which number, that a
-- reading fixes its answer, reading by elements that were opened before, and the places that are answered.
pub mod Days
pub mod Numbers
pub mod OneAnswer
pub mod Opened
pub mod Opens
pub mod Places
