-- How the texts of a list are answered by its format, which is opened once.
use Rattle.std.specs.Prelude.{ℕ, min, List, [], take}
use Rattle.format.specs.Opening.{longest}
use Rattle.strptime.specs.Answers.{refused, unless_long, elements_reading}
use Rattle.strptime.specs.declared.Reading.{Reading}
use Rattle.std.specs.Prelude.{Err, Ok, Result}
use Rattle.format.specs.declared.opening.Unopened.TheVariants.{Bad, TooLong}
use Rattle.format.specs.declared.opening.Unopened.{Unopened}

-- how a text is read by what opening a format answered and stored: 1, or 5 and 3, or by the elements. No more are elements than there are
-- entries, and no offset lies past the longest format; opening answers nothing else.
unfoldable pub opened_reading : Result ℕ Unopened → List ℕ → List ℕ → Reading
opened_reading (Ok n) es s = elements_reading (take n es) s
opened_reading (Err TooLong) es s = refused 1 0
opened_reading (Err (Bad p)) es s = unless_long s (refused 3 (min p longest))

-- the elements of a format that was opened; none where it was refused
unfoldable pub opened_elements : Result ℕ Unopened → List ℕ → List ℕ
opened_elements (Ok n) es = take n es
opened_elements (Err why) es = []
