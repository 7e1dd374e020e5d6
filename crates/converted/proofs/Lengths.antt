-- What a conversion writes by its form, without flag and width, and how long it is.
-- Assumes nothing.
use Prim.Native.Nat.{ℕ, max, ◌^◌, ◌≤◌, ◌<◌}
use mathlib.Core.List.{List, ◌++◌}
use mathlib.Core.Path.{◌≡◌, refl, sym, ap, ◌∙◌}
use native.Mathlib.Omega.{arith}
use lib.Dec.{eqb}
use lib.ListN.{length, replicate, take, length-take}
use lib.Seq.{take_all, take-take}
use Rattle.laws.proofs.Cases.{picked}
use Rattle.names.specs.Case.{cased}
use Rattle.text.specs.Digits.{plain, filled}
use Rattle.names.specs.Names.{name_at}
use Rattle.names.specs.Naming.{place_for, name_for}
use Rattle.names.specs.Rows.{padded}
use Rattle.names.specs.declared.names.Case.{Case}
use Rattle.names.specs.declared.names.Names.{Names}
use Rattle.names.proofs.Cased.{cased_length}
use Rattle.text.proofs.Fill.{fill_length, fill_below, filled_is_fill}
use Rattle.text.proofs.ReadBack.{filled_length}
use Rattle.names.proofs.Rows.{held}
use Rattle.conversions.specs.Pieces.{unstyled}
use Rattle.conversions.specs.declared.conversions.Conversion.{Conversion}
use Rattle.conversions.specs.declared.conversions.Form.{Form}
use Rattle.conversions.specs.declared.following.Style.{Style}
use Rattle.values.specs.Values.{value}
use Rattle.values.specs.declared.Moment.{Moment}
use Rattle.converted.specs.Converted.{fill_by, places_by, number, case_by, name, formed, converted}

pub by_form : (y : Style) (c : Conversion) (m : Moment) {f : Form} {v : ℕ} → c.form ≡ f → v ≡ value c.kind m
    → converted y c m ≡ formed m y f c.width v
unfolding converted
by_form y c m p q = rw (p, q)

pub named : (t : Names) (v : ℕ) {i : ℕ} → i ≡ place_for t v → name_at t i ≡ name_for t v
unfolding name_for
named t v p = rw p

-- ---- without flag and width

-- a number that has room stands on its own width
pub number_plain : (own w v : ℕ) → 1 ≤ w → v < 10 ^ w → number unstyled own w v ≡ filled own w v
unfolding number fill_by places_by
number_plain own w v h l = let e : max w 0 ≡ w = omega arith in rw e (sym (filled_is_fill own w v h l))

pub name_plain : (k : Case) (s : List ℕ) → name unstyled k s ≡ cased k s
unfolding name case_by
name_plain k s = fill_below 32 0 (cased k s) (omega arith)

-- ---- how long it is

module _ (y : Style) where
  pub number_length : (own w v : ℕ) → length (number y own w v) ≡ max (places_by y w) (length (plain v))
  unfolding number
  number_length own w v = fill_length (fill_by y.flag own) (places_by y w) (plain v)

  pub name_length : (k : Case) (s : List ℕ) → length (name y k s) ≡ max y.width (length s)
  unfolding name
  name_length k s =
      fill_length 32 y.width (cased (case_by y.flag k) s) ∙ ap (max y.width) (cased_length (case_by y.flag k) s)

  pub places_most : (w : ℕ) → places_by y w ≤ max w y.width
  unfolding places_by
  places_most w = picked (λ n. n ≤ max w y.width) (eqb y.flag 45) (omega arith) (omega arith)

-- as long as its own width, and as the name
pub plain_length : (own w v : ℕ) → 1 ≤ w → v < 10 ^ w → w ≡ length (number unstyled own w v)
plain_length own w v h l = rw (number_plain own w v h l) (sym (filled_length own w v))

pub plain_name_length : (k : Case) (s : List ℕ) → length s ≡ length (name unstyled k s)
plain_name_length k s = rw (name_plain k s) (sym (cased_length k s))

-- no name has more than nine letters
pub name_most : (t : Names) (v : ℕ) → length (name_for t v) ≤ 9
unfolding name_for padded
name_most t v =
    let name = name_at t (place_for t v) in
    omega (arith, (held t (place_for t v) refl refl).fits, length-take 9 (name ++ replicate 9 32))

-- as many letters as the first k have are these, and as many as the name has are the name
pub letters_taken : (k : ℕ) (s : List ℕ) {n : ℕ} → n ≡ length (take k s) → take n s ≡ take k s
letters_taken k s {n} e =
    sym (take-take n k s (omega (arith, e, length-take k s))) ∙ take_all n (take k s) (omega (arith, e))

pub name_taken : (s : List ℕ) {n : ℕ} → n ≡ length s → take n s ≡ s
name_taken s {n} e = take_all n s (omega (arith, e))
