-- Opening a format into elements (RULES 4), and which entries of a list are elements (RULES 10).
use Prim.Native.Char.{code}
use Rattle.std.specs.Prelude.{ℕ, zero, suc, ◌+◌, ◌-◌, ◌*◌, ◌/◌, ◌%◌, Bool, cond, not, ◌||◌, ◌&&◌, List, [], ◌∷◌, ◌++◌, eqb, leb, ltb}
use Rattle.std.specs.Prelude.{length, get_or}
use Rattle.std.proofs.lemmas.List.Edits.{sets}
use Rattle.conversions.specs.Pieces as pieces
use Rattle.conversions.specs.Pieces.{piece, conversion, flags, takes_style, styled, is_read, to_read}
use Rattle.conversions.specs.Conversions.{among, is_conversion, own_format}
use Rattle.conversions.specs.declared.following.Act.{Act}
use Rattle.conversions.specs.declared.following.Act.TheVariants.{Byte, Convert, Open, Refuse}
use Rattle.conversions.specs.declared.following.Piece.{Piece}
use Rattle.format.specs.declared.opening.Side.{Side}
use Rattle.format.specs.declared.opening.Side.TheVariants.{Writer, Reader}
use Rattle.conversions.specs.declared.following.Style.{Style}
use Rattle.std.specs.Prelude.{Err, None, Ok, Option, Result, Some}
use Rattle.format.specs.declared.opening.Unopened.TheVariants.{Bad, TooLong}
use Rattle.format.specs.declared.opening.Unopened.{Unopened}

-- the most bytes of a format, and of a text (RULES 1)
abbrev pub longest : ℕ
longest = 1024

-- ---- elements

-- An element is a number. A byte stands for itself. A conversion is its letter, 256 times one more than the offset of its %, 2^18 times its
-- width and 2^25 times its flag; a width or a flag that is not there counts as 0.
abbrev pub conversion_at : ℕ → Style → ℕ → ℕ
conversion_at sign y letter = 33554432 * y.flag + (262144 * y.width + (256 * (sign + 1) + letter))

abbrev pub is_byte : ℕ → Bool
is_byte e = ltb e 256

abbrev pub letter_of : ℕ → ℕ
letter_of e = e % 256

-- the offset of its %, and one more
abbrev pub after_sign : ℕ → ℕ
after_sign e = e / 256 % 1024

abbrev pub style_of : ℕ → Style
style_of e = record { flag = e / 33554432; width = e / 262144 % 128 }

-- an element with neither flag nor width
abbrev pub is_plain : ℕ → Bool
is_plain e = ltb e 262144

-- ---- what a format begins with

-- what follows a %: the writer takes a flag and a width before the conversion; the reader takes none, and no %s
unfoldable pub signed : Side → List ℕ → Piece
signed Writer s = styled s
signed Reader s = let p = conversion s in piece (to_read p.act) p.length

-- a byte, and what follows it
unfoldable pub piece_of : Side → ℕ → List ℕ → Piece
piece_of d b s = cond (eqb b (code "%")) (signed d s) (piece (Byte b) 1)

-- ---- opening

-- Where the opening of a format ended: at the format's end, or at the offset of its first bad %.
pub data Ended : Type 0 where
  Whole : Ended
  BadAt : ℕ → Ended

-- A format opened: its elements in order, those before its first bad % if there is one, and where that ended.
pub record Opening : Type 0 where
  pub elements : List ℕ
  pub ended : Ended

-- no elements
unfoldable pub nothing : Ended → Opening
nothing d = record { elements = []; ended = d }

-- some elements before those of the rest of a format
unfoldable pub before : List ℕ → Opening → Opening
before e rest = record { elements = e ++ rest.elements; ended = rest.ended }

-- a composite opened, before the rest; where its own format has a bad %, that ends the opening
unfoldable pub composed : Opening → Opening → Opening
composed o rest = go o.ended
  where
    go : Ended → Opening
    go Whole = before o.elements rest
    go (BadAt p) = o

-- what stands first, whose % is at `sign`, makes of the rest of a format; `inner` opens composites
unfoldable pub acted : (ℕ → ℕ → Opening) → ℕ → Opening → Act → Opening
acted inner sign rest (Byte b) = before (b ∷ []) rest
acted inner sign rest (Convert c y) = before (conversion_at sign y c ∷ []) rest
acted inner sign rest (Open c) = composed (inner sign c) rest
acted inner sign rest Refuse = nothing (BadAt sign)

-- the offset that the % at offset i counts as: its own, or within a composite that of the composite's %
unfoldable pub sign_at : Option ℕ → ℕ → ℕ
sign_at None i = i
sign_at (Some p) i = p

-- a format opened for a side
module _ (d : Side) where
  -- what it opens to from offset i on; the next `past` bytes belong to the element before
  unfoldable pub open_from : (ℕ → ℕ → Opening) → Option ℕ → ℕ → ℕ → List ℕ → Opening
  open_from inner g i past [] = nothing Whole
  open_from inner g i (suc past) (b ∷ s) = open_from inner g (i + 1) past s
  open_from inner g i zero (b ∷ s) =
      let p = piece_of d b s in
      let rest = open_from inner g (i + 1) (p.length - 1) s in
      acted inner (sign_at g i) rest p.act

  -- a composite whose % is at `sign`, opened at most `depth` deep: its own format's composites open one less deep, and none opens 0 deep
  unfoldable pub composite_to : ℕ → ℕ → ℕ → Opening
  composite_to zero sign c = nothing (BadAt sign)
  composite_to (suc depth) sign c = open_from (composite_to depth) (Some sign) 0 0 (own_format c)

  -- a format, its composites at most `depth` deep
  unfoldable pub open_to : ℕ → Option ℕ → List ℕ → Opening
  open_to depth g s = open_from (composite_to depth) g 0 0 s

  -- composites are opened at most two deep
  unfoldable pub opening : List ℕ → Opening
  opening s = open_to 2 None s

-- what opening a format answers: how many elements it has, 1, or 3 with the offset of its first bad %
unfoldable pub closed : ℕ → Ended → Result ℕ Unopened
closed n Whole = Ok n
closed n (BadAt p) = Err (Bad p)

unfoldable pub opened : Side → List ℕ → Result ℕ Unopened
opened d s =
    let o = opening d s in
    cond (leb (length s) longest) (closed (length o.elements) o.ended) (Err TooLong)

-- what a slice holds after a format was opened into it: the elements from its start on, as many as fit; as it came where that is too long
unfoldable pub opened_into : Side → List ℕ → List ℕ → List ℕ
opened_into d s out =
    let stored = sets out 0 (opening d s).elements in
    cond (leb (length s) longest) stored out

-- ---- entries of an opened format

-- the most elements that a format opens to: 13 to two bytes (proofs/Bound.antt)
abbrev pub most_elements : ℕ
most_elements = 6656

-- what a side takes: for the writer a flag and a width that belong to the letter, for the reader none, and no %s
unfoldable pub is_taken : Side → ℕ → Bool
is_taken Writer e =
    let y = style_of e in
    leb y.width 99 && (among y.flag (0 ∷ flags) && takes_style y (letter_of e))
is_taken Reader e = is_plain e && is_read (letter_of e)

-- what is an element: a byte, or a conversion that the side takes, whose % has a letter after it in the longest format
unfoldable pub is_element : Side → ℕ → Bool
is_element d e = is_byte e || (is_conversion (letter_of e) && (leb 1 (after_sign e) && is_taken d e))

-- how many entries, from the first on and at most n, are elements
unfoldable pub elements_in : Side → ℕ → List ℕ → ℕ
elements_in d zero es = 0
elements_in d (suc n) [] = 0
elements_in d (suc n) (e ∷ es) = let more = suc (elements_in d n es) in cond (is_element d e) more 0

-- the place of the entry k, at which reading is refused: the offset of its % where it is an element for writing, otherwise k itself
unfoldable pub entry_place : List ℕ → ℕ → ℕ
entry_place es k = let e = get_or es k 0 in cond (is_element Writer e && not (is_element Reader e)) (after_sign e - 1) k

-- everything here, for proofs that compute
unfoldable pub computes : Unit {0}
unfolding pieces.computes signed
    piece_of nothing before composed acted sign_at open_from composite_to open_to opening closed opened opened_into is_taken is_element
    elements_in
    entry_place
computes = tt
