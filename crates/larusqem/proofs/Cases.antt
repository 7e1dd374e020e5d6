-- Every case of Cases has the words that it must have: one statement, by computing.
use mathlib.Core.List.{map}
use mathlib.Core.Path.{◌≡◌, refl}
use Rattle.strptime.specs.Answers as answers
use Rattle.matching.specs.Steps as reading
use Rattle.strftime.specs.declared.Fields.{Fields}
use Rattle.larusqem.specs.Cases.{Case, word_cases, moment_cases}
use Rattle.larusqem.specs.Words as words

pub all_worded : map (λ (c : Case). c.0) word_cases ≡ map (λ (c : Case). c.1) word_cases
unfolding word_cases words.computes answers.computes reading.computes
all_worded = refl

pub all_moments : map (λ (c : Fields × Fields). c.0) moment_cases ≡ map (λ (c : Fields × Fields). c.1) moment_cases
unfolding moment_cases words.computes
all_moments = refl
