-- The answers' numbers and places, for C: both in one 64-bit result (RULES 3).
use Rattle.std.specs.Prelude.{ℕ, ◌+◌, ◌*◌, ◌^◌, cond, List, eqb, leb, length}
use Rattle.format.specs.Opening.{opened}
use Rattle.format.specs.declared.opening.Side.{Side}
use Rattle.format.specs.declared.opening.Side.TheVariants.{Writer, Reader}
use Rattle.judge.specs.declared.Engine.{Engine}
use Rattle.judge.specs.declared.Engine.TheVariants.{Skipping, Plain, Within}
use Rattle.strftime.specs.declared.Writing.{Writing}
use Rattle.strptime.specs.declared.Reading.{Reading}
use Rattle.std.specs.Prelude.{Err, Ok, Result}
use Rattle.format.specs.declared.opening.Unopened.TheVariants.{Bad, TooLong}
use Rattle.format.specs.declared.opening.Unopened.{Unopened}

-- the number above the low 32 bits, the place in them: every place fits there
abbrev pub packed : ℕ → ℕ → ℕ
packed number place = number * 2 ^ 32 + place

abbrev pub packed_writing : Writing → ℕ
packed_writing w = packed w.number w.place

abbrev pub packed_reading : Reading → ℕ
packed_reading r = packed r.number r.place

-- the engine that a number asks for: 0 the one that skips, 1 the plain one, any other the plain one with a budget
unfoldable pub engine_of : ℕ → ℕ → Engine
engine_of n b = cond (eqb n 0) Skipping (cond (eqb n 1) Plain (Within b))

-- the side that a number asks for: 0 the reader, any other the writer
unfoldable pub side_of : ℕ → Side
side_of n = cond (eqb n 0) Reader Writer

-- what opening a format into a slice with some entries answers: 0 with the count, 1, 3 with the offset of the first bad %, or 4 with the
-- entries needed
unfoldable pub packed_opened : ℕ → Result ℕ Unopened → ℕ
packed_opened room (Ok n) = cond (leb n room) (packed 0 n) (packed 4 n)
packed_opened room (Err TooLong) = packed 1 0
packed_opened room (Err (Bad p)) = packed 3 p

unfoldable pub opened_for : Side → List ℕ → List ℕ → ℕ
opened_for d f out = packed_opened (length out) (opened d f)
