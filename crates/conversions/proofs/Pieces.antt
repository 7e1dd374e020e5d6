-- What stands after a %: by its first bytes, and how many bytes it takes.
-- Assumes nothing.
use Prim.Native.Char.{code}
use Prim.Native.Nat.{ℕ, ◌+◌, ◌-◌, ◌≤◌}
use mathlib.Core.List.{List, [], ◌∷◌}
use mathlib.Core.Path.{◌≡◌}
use native.Mathlib.Omega.{arith}
use lib.Dec.{eqb, lit≤}
use lib.ListN.{length, get_or, take, drop, length-drop}
use lib.Seq.{take_all}
use Rattle.laws.proofs.Cases.{picked}
use Rattle.text.specs.Digits.{decimal}
use Rattle.text.specs.declared.digits.Digits.{Digits}
use Rattle.conversions.specs.Pieces.{after_E, after_O, paired, conversion, flag_run, width_run, style_from}
use Rattle.conversions.specs.Pieces.{with_style, styled}
use Rattle.conversions.specs.declared.following.Act.{Act}
use Rattle.conversions.specs.declared.following.Piece.{Piece}

-- a slice from some place on, as the code lends it
pub rest : (s : List ℕ) (k : ℕ) → take (length s - k) (drop k s) ≡ drop k s
rest s k = take_all (length s - k) (drop k s) (rw length-drop (omega arith))

-- ---- how many bytes it takes: one to three without flag and width

abbrev pub Few : ℕ → Piece → Type 0
Few n p = (1 ≤ p.length) × (p.length ≤ n)

paired_takes : (letters s : List ℕ) → Few 3 (paired letters s)
unfolding paired
paired_takes letters [] = (lit≤ tt, lit≤ tt)
paired_takes letters (b ∷ s) = (lit≤ tt, lit≤ tt)

pub conversion_takes : (s : List ℕ) → Few 3 (conversion s)
unfolding conversion
conversion_takes [] = (lit≤ tt, lit≤ tt)
conversion_takes (b ∷ s) =
    picked (Few 3) (eqb b (code "E")) (paired_takes after_E s)
    (picked (Few 3) (eqb b (code "O")) (paired_takes after_O s) (lit≤ tt, lit≤ tt))

pub at_most_three : (s : List ℕ) {p : Piece} → p ≡ conversion s → p.length ≤ 3
at_most_three s e = rw e (conversion_takes s).1

-- ---- with a flag and a width, by its parts

pub styled_is : (s : List ℕ) {f n : ℕ} {w : Digits} {p : Piece} {a : Act} → f ≡ get_or (flag_run s) 0 0 → n ≡ length (flag_run s)
    → (w.value ≡ decimal 0 (width_run (drop n s))) × (w.count ≡ length (width_run (drop n s)))
    → p ≡ conversion (drop (n + w.count) s) → a ≡ with_style (record { flag = f; width = w.value }) p.act
    → record { act = a; length = n + w.count + p.length } ≡ styled s
unfolding styled style_from
styled_is s e q d h g = rw (g, h, d.0, d.1, e, q)
