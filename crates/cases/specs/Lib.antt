-- What is shown by computing: tables of cases, each beside what it must give, and what %z writes and reads for each zone offset. The
-- theorems are in proofs/.
--   Starred      the starred cases of RULES 5 and RULES 8 (`all_hold` in proofs/Starred)
--   ColumnCases  flags and widths (`columns_hold` in proofs/ColumnCases)
--   NameCases    how names are read, and all forms of all tables (`all_named`, `all_forms` in proofs/NameCases)
--   Examined     the days that each engine examines (`all_examined` in proofs/Examined)
--   ReasonCases  why readings are refused (`all_explained` in proofs/ReasonCases)
--   Offsets      what %z writes, that it reads back, and that the day and the hour do not depend on it (`zone_rule`, `ignored` in
--                proofs/Zones), with cases of %z and %s (`all_written`, `reads_all` in proofs/Zones)
pub mod ColumnCases
pub mod Examined
pub mod NameCases
pub mod Offsets
pub mod ReasonCases
pub mod Starred
