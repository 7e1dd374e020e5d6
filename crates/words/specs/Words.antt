-- Values as 32-bit words for C (RULES 10.3): zone offsets, in two's complement, and the hours, minutes and seconds of a reading.
use Rattle.std.specs.Prelude.{ℕ, suc, ◌-◌, ◌^◌, cond, eqb, ltb, ℤ, pos, negsuc, ◌-ℤ◌}
use Rattle.std.specs.Prelude.{None, Option, Some}

-- the number that a word is in two's complement, and its word
unfoldable pub signed_of : ℕ → ℤ
signed_of w = cond (ltb w (2 ^ 31)) (pos w) (pos w -ℤ pos (2 ^ 32))

unfoldable pub word_of : ℤ → ℕ
word_of (pos n) = n
word_of (negsuc n) = 2 ^ 32 - suc n

-- an offset that is said unless the first word is 0
unfoldable pub offset_from : ℕ → ℕ → Option ℤ
offset_from said w = cond (eqb said 0) None (Some (signed_of w))

-- whether an offset is said, and its word, or 0
unfoldable pub offset_flag : Option ℤ → ℕ
offset_flag None = 0
offset_flag (Some z) = 1

unfoldable pub offset_word : Option ℤ → ℕ
offset_word None = 0
offset_word (Some z) = word_of z

-- whether an hour, minute or second is said, 1 or 0, and its number, or 0
abbrev pub flag : Option ℕ → ℕ
flag None = 0
flag (Some n) = 1

abbrev pub number_or0 : Option ℕ → ℕ
number_or0 None = 0
number_or0 (Some n) = n

-- everything here, for proofs that compute
unfoldable pub computes : Unit {0}
unfolding signed_of word_of offset_from offset_flag offset_word
computes = tt
