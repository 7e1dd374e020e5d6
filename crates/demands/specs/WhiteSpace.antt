-- White space where reader and writer meet it: in formats, in texts and before numbers it is the same six bytes (RULES 1 and 6), and the
-- writer copies them, as it does every byte but % (RULES 5).
use Prim.Native.Char.{code}
use Rattle.std.specs.Prelude.{ℕ, Bool, ◌&&◌, List, [], ◌∷◌, ◌++◌, ◌≡◌, eqb, replicate}
use Rattle.laws.specs.Bytes.{bytes}
use Rattle.conversions.specs.Conversions.{among}
use Rattle.values.specs.Moments.{moment_of}
use Rattle.values.specs.declared.Moment.{Moment}
use Rattle.strftime.specs.Writing.{numbered, writing}
use Rattle.strftime.specs.declared.Fields.{Fields}
use Rattle.strptime.specs.Answers.{reading}
use Rattle.std.specs.Prelude.{Ok}

-- tab, newline, vertical tab, form feed, carriage return, blank
unfoldable pub space_bytes : List ℕ
space_bytes = 9 ∷ 10 ∷ 11 ∷ 12 ∷ 13 ∷ 32 ∷ []

-- whether a text is answered, by a format, with this number and this place
unfoldable pub is_answered : List ℕ → List ℕ → ℕ → ℕ → Bool
is_answered f s n p = let r = reading f s in eqb r.number n && eqb r.place p

-- the ways in which the reader meets white space, tried with a byte: as a format it takes a run of all six, and may take none; a blank of
-- the format takes it; it is skipped before numbers, those filled with zeros and those filled with blanks
unfoldable pub met : ℕ → List Bool
met b =
    is_answered (b ∷ []) space_bytes 0 6
    ∷ is_answered (b ∷ []) [] 0 0
    ∷ is_answered (bytes " ") (b ∷ []) 0 1
    ∷ is_answered (bytes "%M%k") (b ∷ bytes "08" ++ b ∷ bytes "07") 0 6
    ∷ []

-- a format of one byte writes it, for every moment, over a buffer's first byte
abbrev pub Copied : ℕ → Type 0
Copied b =
    (t : Fields) (m : Moment) → moment_of t.year t.month t.day t.hour t.minute t.second t.offset ≡ Ok m
    → (c : ℕ) (rest : List ℕ) → writing (b ∷ []) t (c ∷ rest) ≡ record { answer = numbered 0 1; buffer = b ∷ rest }

pub record WhiteSpace (b : ℕ) : Type 0 where
  -- one of the six is met in each of these ways, and any other byte in none
  pub reads : met b ≡ replicate 4 (among b space_bytes)
  -- the writer copies it, unless it is %
  pub writes : (b ≡ code "%" → ⊥) → Copied b
