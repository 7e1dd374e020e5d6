-- The words of reasons worked out (RULES 10.3), each beside what it must be.
use Rattle.std.specs.Prelude.{ℕ, List, [], ◌∷◌, ◌++◌, replicate}
use Rattle.matching.specs.Extents.{extent, nowhere}
use Rattle.matching.specs.declared.extents.Extent.{Extent}
use Rattle.reasons.specs.declared.About.TheVariants.{Day as TheDay, Hour as TheHour}
use Rattle.reasons.specs.declared.Part.TheVariants.{Year, Month, Day}
use Rattle.larusqem_reasons.specs.Reasons.{reason_words}
use Rattle.std.specs.Prelude.{None, Option, Some}
use Rattle.reasons.specs.declared.Reason.TheVariants.{Differ, Hours, Quarrel}
use Rattle.reasons.specs.declared.Reason.{Reason}

-- the words of a reason, and what they must be
abbrev pub Case : Type 0
Case = List ℕ × List ℕ

abbrev words : Option Reason → List Extent → List ℕ
words r xs = reason_words (record { reason = r; words = xs })

abbrev none : List Extent
none = replicate 18 nowhere

unfoldable pub reason_cases : List Case
reason_cases =
    -- Tue 5 Mar 1934: year 10 to 14, month 6 to 9, day 4 to 5, weekday 0 to 3
    (
      words (Some (Quarrel TheDay))
          (nowhere ∷ extent 10 14 ∷ nowhere ∷ nowhere ∷ extent 6 9 ∷ extent 4 5 ∷ nowhere ∷ extent 0 3
          ∷ replicate 10 nowhere),
      0 ∷ 0 ∷ 0 ∷ 10 ∷ 14 ∷ 0 ∷ 0 ∷ 0 ∷ 0 ∷ 6 ∷ 9 ∷ 4 ∷ 5 ∷ 0 ∷ 0 ∷ 0 ∷ 3 ∷ replicate 16 0,
    )
    -- 7 PM: hour 0 to 1, half of day 2 to 4
    ∷ (
      words (Some (Quarrel TheHour)) (replicate 13 nowhere ++ (extent 0 1 ∷ nowhere ∷ extent 2 4 ∷ nowhere ∷ nowhere ∷ [])),
      replicate 27 0 ++ (0 ∷ 1 ∷ 0 ∷ 0 ∷ 2 ∷ 4 ∷ []),
    )
    -- the part in which two days differ, two hours, and no reason
    ∷ (words (Some (Differ Year)) none, 1 ∷ replicate 32 0)
    ∷ (words (Some (Differ Month)) none, 2 ∷ replicate 32 0)
    ∷ (words (Some (Differ Day)) none, 3 ∷ replicate 32 0)
    ∷ (words (Some (Hours 7 19)) none, replicate 33 0)
    ∷ (words None none, replicate 33 0)
    ∷ []
