-- What stands first in a format: by its first bytes, and how many bytes it takes.
-- Assumes nothing.
use Prim.Native.Char.{code}
use Prim.Native.Nat.{ℕ, suc, ◌+◌, ◌≤◌, ◌<◌}
use mathlib.Core.Bool.{true}
use mathlib.Core.List.{List, [], ◌∷◌}
use mathlib.Core.Path.{◌≡◌, refl}
use native.Mathlib.Omega.{arith}
use lib.Dec.{eqb, lit≤, lit<}
use lib.ListN.{length, drop, length-drop}
use Rattle.laws.proofs.Cases.{picked, either}
use Rattle.conversions.specs.Conversions.{among, is_conversion, is_composite}
use Rattle.conversions.specs.Pieces.{after_E, after_O, letter, paired, conversion, flag_run, width_run, style_from, takes_style}
use Rattle.conversions.specs.Pieces.{unstyled, is_unstyled, with_style, is_read, to_read, styled}
use Rattle.format.specs.Opening.{is_byte, signed, piece_of}
use Rattle.conversions.specs.declared.following.Act.{Act}
use Rattle.conversions.specs.declared.following.Act.TheVariants.{Byte, Convert, Open, Refuse}
use Rattle.conversions.specs.declared.following.Piece.{Piece}
use Rattle.format.specs.declared.opening.Side.{Side}
use Rattle.format.specs.declared.opening.Side.TheVariants.{Writer, Reader}
use Rattle.conversions.specs.declared.following.Style.{Style}
use Rattle.conversions.proofs.Pieces.{Few, conversion_takes}
use Rattle.conversions.proofs.Styles.{flag_run_lem, width_run_lem}

-- ---- how many bytes it takes: at most six

signed_takes : (side : Side) (s : List ℕ) → Few 6 (signed side s)
unfolding signed styled
signed_takes Writer s =
    let f = flag_run s in
    let w = width_run (drop (length f) s) in
    let c = conversion_takes (drop (length f + length w) s) in
    (omega (arith, c), omega (arith, c, (flag_run_lem s).few, (width_run_lem (drop (length f) s)).few))
signed_takes Reader s = omega-takes (conversion_takes s)
  where
    omega-takes : Few 3 (conversion s) → Few 6 (signed Reader s)
    omega-takes h = (h.0, omega (arith, h.1))

pub takes : (side : Side) (b : ℕ) (s : List ℕ) → Few 6 (piece_of side b s)
unfolding piece_of
takes side b s = picked (Few 6) (eqb b (code "%")) (signed_takes side s) (lit≤ tt, lit≤ tt)

-- ---- what stands after a % without flag and width: a byte, or a conversion without them

abbrev pub Unstyled : Act → Type 0
Unstyled (Byte b) = is_byte b ≡ true
Unstyled (Convert c y) = (is_conversion c ≡ true) × (y ≡ unstyled)
Unstyled (Open c) = Unit {0}
Unstyled Refuse = Unit {0}

letter_unstyled : (b : ℕ) → Unstyled (letter b)
unfolding letter
letter_unstyled b =
    picked Unstyled (eqb b (code "n")) refl
    (picked Unstyled (eqb b (code "t")) refl
    (picked Unstyled (eqb b (code "%")) refl
    (picked Unstyled (is_composite b) tt
    (either Unstyled (is_conversion b) (λ e. (e, refl)) (λ e. tt)))))

paired_unstyled : (letters s : List ℕ) → Unstyled (paired letters s).act
unfolding paired
paired_unstyled letters [] = tt
paired_unstyled letters (b ∷ s) = picked Unstyled (among b letters) (letter_unstyled b) tt

pub conversion_unstyled : (s : List ℕ) → Unstyled (conversion s).act
unfolding conversion
conversion_unstyled [] = tt
conversion_unstyled (b ∷ s) =
    let P : Piece → Type 0 = λ p. Unstyled p.act in
    picked P (eqb b (code "E")) (paired_unstyled after_E s)
    (picked P (eqb b (code "O")) (paired_unstyled after_O s) (letter_unstyled b))

-- ---- what follows its first byte

-- a flag and a width that stand in k bytes
pub record Modest (k : ℕ) (y : Style) : Type 0 where
  pub flag : y.flag < 127
  pub width : y.width ≤ 99
  pub bytes : 10 ≤ y.width → 4 ≤ k

-- n bytes follow the first, and k are taken in all: a conversion has a byte after its %
abbrev pub Follows : ℕ → ℕ → Act → Type 0
Follows n k (Byte b) = Unit {0}
Follows n k (Convert c y) = (1 ≤ n) × (2 ≤ k) × Modest k y
Follows n k (Open c) = (1 ≤ n) × (2 ≤ k)
Follows n k Refuse = Unit {0}

has_two : (n k : ℕ) → 1 ≤ n → 2 ≤ k → (a : Act) → Unstyled a → Follows n k a
has_two n k h l (Byte b) u = tt
has_two n k h l (Convert c y) u = rw u.1 (h, l, record { flag = lit< tt; width = lit≤ tt; bytes = λ m. absurd (omega arith) })
has_two n k h l (Open c) u = (h, l)
has_two n k h l Refuse u = tt

paired_two : (letters s : List ℕ) → 2 ≤ (paired letters s).length
unfolding paired
paired_two letters [] = lit≤ tt
paired_two letters (b ∷ s) = lit≤ tt

conversion_follows : (s : List ℕ) → let p = conversion s in Follows (length s) p.length p.act
unfolding conversion
conversion_follows [] = tt
conversion_follows (b ∷ s) =
    let P : Piece → Type 0 = λ p. 2 ≤ p.length in
    has_two (suc (length s)) (conversion (b ∷ s)).length (omega arith)
    (picked P (eqb b (code "E")) (paired_two after_E s) (picked P (eqb b (code "O")) (paired_two after_O s) (lit≤ tt)))
    (conversion (b ∷ s)).act
    (conversion_unstyled (b ∷ s))

-- after a flag and a width, which take some bytes of their own
module _ (n k m l : ℕ) (y : Style) (h : n ≤ m) (g : k ≤ l) (f : y.flag < 127) (w : y.width ≤ 99) (t : 10 ≤ y.width → 2 + k ≤ l) where
  with-style-follows : (a : Act) → Follows n k a → Follows m l (with_style y a)
  unfolding with_style
  with-style-follows (Byte b) v = picked (Follows m l) (is_unstyled y) tt tt
  with-style-follows (Convert c x) v =
      let modest : Modest l y = record { flag = f; width = w; bytes = λ d. omega (arith, t d, v.1) } in
      picked (Follows m l) (takes_style y c) (omega (arith, v.0), omega (arith, v.1), modest) tt
  with-style-follows (Open c) v = picked (Follows m l) (is_unstyled y) (omega (arith, v.0), omega (arith, v.1)) tt
  with-style-follows Refuse v = tt

to_read_follows : (n k : ℕ) (a : Act) → Follows n k a → Follows n k (to_read a)
unfolding to_read
to_read_follows n k (Byte b) v = v
to_read_follows n k (Convert c y) v = picked (Follows n k) (is_read c) v tt
to_read_follows n k (Open c) v = v
to_read_follows n k Refuse v = v

signed_follows : (side : Side) (s : List ℕ) → let p = signed side s in Follows (length s) p.length p.act
unfolding signed styled style_from
signed_follows Writer s =
    let f = flag_run s in
    let w = width_run (drop (length f) s) in
    let rest = drop (length f + length w) s in
    let p = conversion rest in
    let digits = width_run_lem (drop (length f) s) in
    with-style-follows (length rest) p.length (length s) (length f + length w + p.length) (style_from f w)
    (rw length-drop (omega arith))
    (omega arith)
    (flag_run_lem s).small
    digits.most
    (λ d. omega (arith, digits.two d))
    p.act
    (conversion_follows rest)
signed_follows Reader s = let p = conversion s in to_read_follows (length s) p.length p.act (conversion_follows s)

pub follows : (side : Side) (b : ℕ) (s : List ℕ) → let p = piece_of side b s in Follows (length s) p.length p.act
unfolding piece_of
follows side b s =
    picked (λ (p : Piece). Follows (length s) p.length p.act) (eqb b (code "%")) (signed_follows side s) tt
