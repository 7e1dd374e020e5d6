-- The three demands as statements about the writer and the reader. The theorems are in proofs/. Cases worked out, and what is computed for
-- each zone offset, are in the crate above, `cases`.
--   1  every answer is a row of the table of RULES 3: `WritingRow` and `ReadingRow` of Rows (`writing_rows`, `reading_rows` in proofs/Rows)
--   2  writing and reading as RULES 5 and RULES 6 fix them: the promises of `strftime` and `strptime` are `writing` and `reading`; which
--      bytes are white space, and where, is in WhiteSpace (`white_space` in proofs/WhiteSpace); what flags and widths do, and who takes
--      them, is in Columns (`columns` in proofs/Columns); how a name is read, and in which form, is in Names (`name_rule` in proofs/Names)
--   3  the conclusions of RULES 8: the facts that a text says, and when it is matched, in Facts (`matched`, `handed` in proofs/Matched);
--      what the writer would write, in Writes (`day_would`, `hour_would` in proofs/Written);
--      how a matched text is answered, `Answered` of Demand (`answered` in proofs/Demand);
--      that it is answered alike by every engine, and what a budget does, in Engines (`one_verdict`, `engines` in proofs/Engines);
--      how many days each engine examines, `Counts` of Counts (`counts` in proofs/Counts); which kinds bear on what, by their numbers, in
--      Bearing (`bearing` in proofs/Bearing); why a reading is refused by 9 or 10, `Reasons` of Reasons (`reasons` in proofs/Reasons), and
--      that words begin with their first digit or letter (`from_the_first` in proofs/Spelled)
pub mod Bearing
pub mod Columns
pub mod Counts
pub mod Demand
pub mod Engines
pub mod Facts
pub mod Names
pub mod Reasons
pub mod Rows
pub mod WhiteSpace
pub mod Writes
