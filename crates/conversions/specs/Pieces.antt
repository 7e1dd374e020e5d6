-- What stands after a % (RULES 4): a letter, alone or after E or O, with a flag and a width before it or without.
use Prim.Native.Char.{code}
use Rattle.std.specs.Prelude.{ℕ, ◌+◌, Bool, true, cond, not, ◌||◌, ◌&&◌, List, [], ◌∷◌, eqb, length, get_or, drop}
use Rattle.laws.specs.Bytes.{bytes}
use Rattle.text.specs.Digits.{is_digit, digit_run, decimal}
use Rattle.conversions.specs.Conversions.{among, is_conversion, conversion_of, is_number, is_name, is_composite}
use Rattle.conversions.specs.declared.following.Act.{Act}
use Rattle.conversions.specs.declared.following.Act.TheVariants.{Byte, Convert, Open, Refuse}
use Rattle.conversions.specs.declared.following.Piece.{Piece}
use Rattle.conversions.specs.declared.following.Style.{Style}

-- no flag and no width
abbrev pub unstyled : Style
unstyled = record { flag = 0; width = 0 }

-- ---- letters

-- the letters that E and O are taken before
unfoldable pub after_E : List ℕ
after_E = bytes "cCxXyY"

unfoldable pub after_O : List ℕ
after_O = bytes "deHImMSuUVwWy"

-- what a conversion's letter stands for: %n is a newline, %t a tab, %% the sign
unfoldable pub letter : ℕ → Act
letter b =
    cond (eqb b (code "n")) (Byte 10)
    (cond (eqb b (code "t")) (Byte 9)
    (cond (eqb b (code "%")) (Byte (code "%"))
    (cond (is_composite b) (Open b)
    (cond (is_conversion b) (Convert b unstyled)
    Refuse))))

-- what stands first, and how many bytes it takes
abbrev pub piece : Act → ℕ → Piece
piece a n = record { act = a; length = n }

-- after %E or %O, where only some letters are taken
unfoldable pub paired : List ℕ → List ℕ → Piece
paired letters [] = piece Refuse 2
paired letters (b ∷ s) = piece (cond (among b letters) (letter b) Refuse) 3

-- E or O or neither, and a letter; refused where that is unknown or not finished. The length counts the % before it.
unfoldable pub conversion : List ℕ → Piece
conversion [] = piece Refuse 1
conversion (b ∷ s) =
    cond (eqb b (code "E")) (paired after_E s)
    (cond (eqb b (code "O")) (paired after_O s)
    (piece (letter b) 2))

-- ---- flags and widths

-- blanks, no filling, zeros, capitals
unfoldable pub flags : List ℕ
flags = bytes "_-0^"

-- the flag that stands first, at most one
unfoldable pub flag_run : List ℕ → List ℕ
flag_run [] = []
flag_run (b ∷ s) = cond (among b flags) (b ∷ []) []

-- the digits of the width that stands first, 1 to 99: at most two, and no zero in front
unfoldable pub width_run : List ℕ → List ℕ
width_run [] = []
width_run (b ∷ s) = cond (eqb b (code "0")) [] (digit_run 2 (b ∷ s))

-- a flag and the digits of a width; 0 where there is none
unfoldable pub style_from : List ℕ → List ℕ → Style
style_from flag width = record { flag = get_or flag 0 0; width = decimal 0 width }

unfoldable pub is_unstyled : Style → Bool
is_unstyled y = eqb y.flag 0 && eqb y.width 0

-- A conversion takes a flag and a width: ^ belongs to names, the other flags to numbers, a width to both. What is neither, %z and %s, takes
-- nothing.
unfoldable pub takes_style : Style → ℕ → Bool
takes_style y c =
    let f = (conversion_of c).form in
    cond (is_unstyled y) true
    (cond (eqb y.flag 0) (is_name f || is_number f)
    (cond (eqb y.flag (code "^")) (is_name f)
    (is_number f)))

-- what stands after a flag and a width: a conversion that takes them, else nothing may stand before it
unfoldable pub with_style : Style → Act → Act
with_style y (Byte b) = cond (is_unstyled y) (Byte b) Refuse
with_style y (Convert c x) = cond (takes_style y c) (Convert c y) Refuse
with_style y (Open c) = cond (is_unstyled y) (Open c) Refuse
with_style y Refuse = Refuse

-- a flag, a width and what follows them
unfoldable pub styled : List ℕ → Piece
styled s =
    let flag = flag_run s in
    let width = width_run (drop (length flag) s) in
    let n = length flag + length width in
    let p = conversion (drop n s) in
    piece (with_style (style_from flag width) p.act) (n + p.length)

-- %s is written and not read
unfoldable pub is_read : ℕ → Bool
is_read c = not (eqb c (code "s"))

unfoldable pub to_read : Act → Act
to_read (Byte b) = Byte b
to_read (Convert c y) = cond (is_read c) (Convert c y) Refuse
to_read (Open c) = Open c
to_read Refuse = Refuse

-- everything here, for proofs that compute
unfoldable pub computes : Unit {0}
unfolding after_E after_O letter paired conversion flags flag_run width_run style_from is_unstyled takes_style
    with_style styled is_read to_read is_digit digit_run decimal
computes = tt
