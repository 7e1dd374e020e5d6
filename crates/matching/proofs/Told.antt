-- What a text can say: a fact of one of the kinds, with a number in the kind's range.
-- Assumes nothing.
use Prim.Native.Nat.{ℕ, ◌+◌, ◌-◌, ◌≤◌, ◌<◌}
use mathlib.Core.Bool.{Bool, true, ◌&&◌}
use native.Mathlib.Omega.{arith}
use lib.Dec.{T, leb, ltb, leb→le, ltb→lt}
use lib.ListN.{length, get_or}
use Rattle.laws.specs.Lists.{every}
use Rattle.laws.proofs.Table.{both, all, at}
use Rattle.kinds.specs.Kinds.{kinds}
use Rattle.conversions.specs.Conversions as rows
use Rattle.conversions.specs.Conversions.{conversion_of}
use Rattle.conversions.specs.declared.conversions.Conversion.{Conversion}
use Rattle.conversions.specs.declared.conversions.Form.{Form}
use Rattle.conversions.specs.declared.conversions.Form.TheVariants.{Zeros, Blanks, FromSunday, Short, Full, Lower, Zone, Seconds, Unknown}
use Rattle.conversions.proofs.Rows.{conversion_passes}
use Rattle.values.proofs.Ranges.{lowest, highest}
use Rattle.names.specs.Names as names
use Rattle.names.specs.Names.{names_of}
use Rattle.names.specs.Naming.{first_value}
use Rattle.names.specs.declared.names.Names.{Names}

-- a fact that a text can say
pub record Told (k n : ℕ) : Type 0 where
  pub least : 1 ≤ k
  pub most : k < kinds
  pub low : get_or lowest k 0 ≤ n
  pub high : n ≤ get_or highest k 0

pub told_small : (k n : ℕ) → Told k n → n ≤ 9999
told_small k n t = omega (arith, t.high, leb→le (get_or highest k 0) 9999 (at (λ i. leb (get_or highest i 0) 9999) kinds test k t.most))
  where
    test : T (all (λ i. leb (get_or highest i 0) 9999) kinds)
    test = unfold highest in tt

-- a conversion's kind is one of them, and the numbers from l to h are in its range
unfoldable pub spans : ℕ → ℕ → ℕ → Bool
spans k l h = leb 1 k && (ltb k kinds && (leb (get_or lowest k 0) l && leb h (get_or highest k 0)))

pub spans_told : (k l h : ℕ) → T (spans k l h) → (n : ℕ) → l ≤ n → n ≤ h → Told k n
unfolding spans
spans_told k l h t n a b =
    let t₁ = both (leb 1 k) (ltb k kinds && (leb (get_or lowest k 0) l && leb h (get_or highest k 0))) t in
    let t₂ = both (ltb k kinds) (leb (get_or lowest k 0) l && leb h (get_or highest k 0)) t₁.1 in
    let t₃ = both (leb (get_or lowest k 0) l) (leb h (get_or highest k 0)) t₂.1 in
    record {
      least = leb→le 1 k t₁.0;
      most = ltb→lt k kinds t₂.0;
      low = omega (arith, leb→le (get_or lowest k 0) l t₃.0);
      high = omega (arith, leb→le h (get_or highest k 0) t₃.1);
    }

-- what a conversion reads, by its form
unfoldable pub spans_names : Names → Conversion → Bool
spans_names t c = spans c.kind (first_value t) (first_value t + length (names_of t) - 1)

unfoldable pub spans_form : Form → Conversion → Bool
spans_form Zeros c = spans c.kind c.low c.high
spans_form Blanks c = spans c.kind c.low c.high
spans_form FromSunday c = spans c.kind 1 7 && leb c.high 7
spans_form (Short t) c = spans_names t c
spans_form (Full t) c = spans_names t c
spans_form (Lower t) c = spans_names t c
spans_form Zone c = spans c.kind 0 2878
spans_form Seconds c = true
spans_form Unknown c = true

-- one computed test over the rows
pub conversion_spans : (c : ℕ) → let x = conversion_of c in T (spans_form x.form x)
conversion_spans c =
    conversion_passes (λ (x : Conversion). spans_form x.form x) c
    (unfold rows.computes every spans_form spans_names spans lowest highest first_value names.computes in tt)
    (unfold rows.computes spans_form in tt)
