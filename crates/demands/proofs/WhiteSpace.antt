-- White space is met alike wherever the reader meets it, by computing all 256 bytes; and each byte but % is copied.
-- Assumes nothing.
use Prim.Native.Char.{code}
use Prim.Native.Nat.{ℕ, ◌<◌}
use mathlib.Core.List.{[], ◌∷◌, map}
use mathlib.Core.Path.{◌≡◌, refl}
use native.Mathlib.Omega.{arith}
use borrow.Author.Tests.{le-leb, lt-ltb, ne_eqb}
use lib.ListN.{length, replicate}
use Rattle.laws.specs.Bytes.{bytes}
use Rattle.laws.specs.Lists.{range}
use Rattle.laws.proofs.Table.{same_at}
use Rattle.text.specs.Digits.{is_digit, digit_run, decimal}
use Rattle.text.specs.Space.{is_space, spaces}
use Rattle.conversions.specs.Conversions as conversions
use Rattle.conversions.specs.Conversions.{among}
use Rattle.format.specs.Opening as opening
use Rattle.format.specs.Opening.{Whole, opening}
use Rattle.format.specs.declared.opening.Side.TheVariants.{Writer}
use Rattle.strftime.specs.Writing.{element, text, put, is_seconds, offered, by_format, for_moment, for_fields, writing}
use Rattle.values.specs.Values as values
use Rattle.agreement.specs.Agreement as agreement
use Rattle.agreement.specs.Search as search
use Rattle.agreement.specs.Verdicts as verdicts
use Rattle.judge.specs.Engines as engines
use Rattle.matching.specs.Elements as elements
use Rattle.matching.specs.Steps as reading
use Rattle.strptime.specs.Answers as answers
use Rattle.values.specs.Offsets as offsets
use Rattle.demands.proofs.Seconds.{no_seconds}
use mathlib.Core.Bool.{false}
use Rattle.demands.specs.WhiteSpace.{WhiteSpace, Copied, space_bytes, is_answered, met}

-- ---- the reader

computed : map met (range 0 256) ≡ map (λ b. replicate 4 (among b space_bytes)) (range 0 256)
unfolding met space_bytes is_answered range bytes is_space spaces is_digit digit_run decimal conversions.computes opening.computes
    values.computes agreement.computes search.computes verdicts.computes engines.computes elements.computes reading.computes
    answers.computes offsets.computes
computed = refl

-- ---- the writer

-- a format of one byte
alone : (b : ℕ) → (b ≡ code "%" → ⊥) → opening Writer (b ∷ []) ≡ record { elements = b ∷ []; ended = Whole }
unfolding opening.computes
alone b n = rw (ne_eqb b (code "%") n)

copied : (b : ℕ) → b < 256 → (b ≡ code "%" → ⊥) → Copied b
unfolding writing for_fields for_moment by_format offered put text element
copied b l n t m v c rest =
    let s : is_seconds b ≡ false = unfold is_seconds in rw (lt-ltb b 256 l) in
    rw (v, alone b n, alone b n, no_seconds m.offset b s, lt-ltb b 256 l, le-leb 1 (length (c ∷ rest)) (omega arith))

pub white_space : (b : ℕ) → b < 256 → WhiteSpace b
white_space b l =
    record {
      reads = same_at met (λ k. replicate 4 (among k space_bytes)) 256 0 computed b (omega arith) l;
      writes = copied b l;
    }
