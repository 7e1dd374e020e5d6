-- The tables of conversions and of composites: what holds of each row holds of what is found.
-- Assumes nothing.
use Prim.Native.Char.{code}
use Prim.Native.Nat.{ℕ}
use mathlib.Core.Bool.{Bool, true, false}
use mathlib.Core.List.{List, [], ◌∷◌, map}
use mathlib.Core.Path.{◌≡◌, refl}
use borrow.Author.Tests.{eqb-true}
use lib.Dec.{T, eqb}
use Rattle.laws.specs.Lists.{every}
use Rattle.laws.proofs.Cases.{either, picked, clash}
use Rattle.laws.proofs.Table.{both}
use Rattle.conversions.specs.Conversions.{Row, Composite, among, find, rows, conversion_of, is_conversion}
use Rattle.conversions.specs.Conversions.{composites, format_of, own_format, computes}
use Rattle.conversions.specs.declared.conversions.Conversion.{Conversion}
use Rattle.conversions.specs.declared.conversions.Form.{Form}
use Rattle.conversions.specs.declared.conversions.Form.TheVariants.{Zeros, Blanks, FromSunday, Short, Full, Lower}
use Rattle.conversions.specs.declared.conversions.Form.TheVariants.{Zone, Seconds, Unknown}

-- ---- conversions

-- a test that passes at each letter with its row, and at none where the letter stands in no row, passes at what is found
found_passes : (p : ℕ → Conversion → Bool) (c : ℕ) (rs : List Row) → T (every (λ (r : Row). p r.letter r.row) rs)
    → (among c (map (λ (r : Row). r.letter) rs) ≡ false → T (p c (find c []))) → T (p c (find c rs))
unfolding find every among
found_passes p c [] t n = n refl
found_passes p c (r ∷ rs) t n =
    let u = both (p r.letter r.row) (every (λ (r : Row). p r.letter r.row) rs) t in
    either (λ x. T (p c x)) (eqb c r.letter) (λ e. rw (eqb-true c r.letter e) u.0)
    (λ e. found_passes p c rs u.1 (λ f. n (rw e f)))

pub conversion_passes : (p : Conversion → Bool) (c : ℕ) → T (every (λ (r : Row). p r.row) rows) → T (p (find c []))
    → T (p (conversion_of c))
unfolding conversion_of
conversion_passes p c t n = found_passes (λ _ r. p r) c rows t (λ e. n)

abbrev known : Form → Bool
known Zeros = true
known Blanks = true
known FromSunday = true
known (Short t) = true
known (Full t) = true
known (Lower t) = true
known Zone = true
known Seconds = true
known Unknown = false

-- a conversion's letter has a row
pub conversion_known : (c : ℕ) → is_conversion c ≡ true → (conversion_of c).form ≡ Unknown → ⊥
unfolding is_conversion conversion_of
conversion_known c e u =
    let t = found_passes (λ _ r. known r.form) c rows (unfold computes every in tt) (λ f. clash (cc)) in
    unfold find in rw u at t

-- the seconds of %s are the form of one letter
abbrev only_s : ℕ → Form → Bool
only_s c Zeros = true
only_s c Blanks = true
only_s c FromSunday = true
only_s c (Short t) = true
only_s c (Full t) = true
only_s c (Lower t) = true
only_s c Zone = true
only_s c Seconds = eqb c (code "s")
only_s c Unknown = true

pub seconds_letter : (c : ℕ) → (conversion_of c).form ≡ Seconds → eqb c (code "s") ≡ true
unfolding conversion_of
seconds_letter c e =
    let t = found_passes (λ l r. only_s l r.form) c rows (unfold computes every in tt) (λ f. unfold find in tt) in
    T→eq (eqb c (code "s")) (rw e at t)
  where
    T→eq : (b : Bool) → T b → b ≡ true
    T→eq true t = refl
    T→eq false t = absurd t

-- ---- composites

-- a test that passes at each own format, and at the empty one, passes at what is found
format_passes : (p : List ℕ → Bool) (c : ℕ) (xs : List Composite) → T (every (λ (x : Composite). p x.format) xs) → T (p [])
    → T (p (format_of c xs))
unfolding every format_of
format_passes p c [] t n = n
format_passes p c (x ∷ xs) t n =
    let u = both (p x.format) (every (λ (x : Composite). p x.format) xs) t in
    picked (λ s. T (p s)) (eqb c x.letter) u.0 (format_passes p c xs u.1 n)

pub own_passes : (p : List ℕ → Bool) (c : ℕ) → T (every (λ (x : Composite). p x.format) composites) → T (p []) → T (p (own_format c))
unfolding own_format
own_passes p c t n = format_passes p c composites t n
