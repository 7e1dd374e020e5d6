-- The flag and the width that stand first after a %: how long they are, and what they can be.
-- Assumes nothing.
use Prim.Native.Char.{code}
use Prim.Native.Nat.{ℕ, ◌≤◌, ◌<◌}
use mir.Val.{bool_byte}
use mathlib.Core.Bool.{Bool, true, false, not, and-eq-true_iff}
use mathlib.Core.List.{List, [], ◌∷◌}
use mathlib.Core.Path.{◌≡◌, refl, sym, ◌∙◌}
use native.Mathlib.Decide.{dec_le}
use native.Mathlib.Nat.{lt_of_not-le}
use native.Mathlib.Omega.{arith}
use borrow.Author.Tests.{leb-true, eqb-true, eqb-false}
use lib.Dec.{eqb, leb, lit<}
use lib.ListN.{length, get_or}
use Rattle.laws.proofs.Cases.{either, clash}
use Rattle.text.specs.Digits.{is_digit, digit_run, decimal}
use Rattle.conversions.specs.Conversions.{among, computes as rows-compute}
use Rattle.conversions.specs.Pieces.{flags, flag_run, width_run}
use Rattle.conversions.proofs.Letters.{among_past}

-- ---- a flag

-- the flag of a format that goes on with s, or none
pub record IsFlag (s fs : List ℕ) : Type 0 where
  pub few : length fs ≤ 1
  pub within : length fs ≤ length s
  pub known : among (get_or fs 0 0) (0 ∷ flags) ≡ true
  pub small : get_or fs 0 0 < 127
  pub none : get_or fs 0 0 ≡ 0 → length fs ≡ 0
  pub some : (get_or fs 0 0 ≡ 0 → ⊥) → length fs ≡ 1

no_flag : (s : List ℕ) → IsFlag s []
unfolding flags among
no_flag s =
    record {
      few = omega arith;
      within = omega arith;
      known = refl;
      small = lit< tt;
      none = λ e. refl;
      some = λ f. absurd (f refl);
    }

a_flag : (b : ℕ) (s : List ℕ) → among b flags ≡ true → IsFlag (b ∷ s) (b ∷ [])
unfolding among
a_flag b s e =
    let not-zero : b ≡ 0 → ⊥ = λ z. zero-is-none (rw z at e) in
    record {
      few = omega arith;
      within = omega arith;
      known = either (λ (t : Bool). t ≡ true) (eqb b 0) (λ z. refl) (λ z. e);
      small = below;
      none = λ z. absurd (not-zero z);
      some = λ f. refl;
    }
  where
    zero-is-none : among 0 flags ≡ true → ⊥
    zero-is-none z = unfold rows-compute flags in clash (cc)

    below : b < 127
    below =
        elim (dec_le 127 b) [
          | yes h ↦ let f = among_past 127 flags (unfold rows-compute flags in tt) b h in clash (cc)
          | no h ↦ lt_of_not-le h
        ]

pub flag_run_lem : (s : List ℕ) → IsFlag s (flag_run s)
unfolding flag_run
flag_run_lem [] = no_flag []
flag_run_lem (b ∷ s) = either (IsFlag (b ∷ s)) (among b flags) (λ e. a_flag b s e) (λ e. no_flag (b ∷ s))

-- how many bytes it has
pub flag_bytes_lem : (s : List ℕ) {f n : ℕ} → f ≡ get_or (flag_run s) 0 0 → n ≡ bool_byte (not (eqb f 0)) → n ≡ length (flag_run s)
flag_bytes_lem s {f} {n} e q =
    q ∙ elim (eqb f 0) as (λ t. eqb f 0 ≡ t → bool_byte (not t) ≡ length (flag_run s)) [ true ↦ none | false ↦ some ] refl
  where
    none : eqb f 0 ≡ true → 0 ≡ length (flag_run s)
    none z = sym ((flag_run_lem s).none (sym e ∙ eqb-true f 0 z))

    some : eqb f 0 ≡ false → 1 ≡ length (flag_run s)
    some z = sym ((flag_run_lem s).some (λ y. eqb-false f 0 z (e ∙ y)))

-- ---- a width

-- the digits of the width of a format that goes on with s, or none
pub record IsWidth (s ds : List ℕ) : Type 0 where
  pub few : length ds ≤ 2
  pub within : length ds ≤ length s
  pub most : decimal 0 ds ≤ 99
  pub none : decimal 0 ds ≡ 0 → length ds ≡ 0
  pub two : 10 ≤ decimal 0 ds → length ds ≡ 2

digit_range : (b : ℕ) → is_digit b ≡ true → (48 ≤ b) × (b ≤ 57)
unfolding is_digit
digit_range b e =
    let p = (and-eq-true_iff (leb 48 b) (leb b 57)).0 e in
    (leb-true 48 b p.0, leb-true b 57 p.1)

no_width : (s : List ℕ) → IsWidth s []
unfolding decimal
no_width s =
    record { few = omega arith; within = omega arith; most = omega arith; none = λ e. refl; two = λ h. absurd (omega arith) }

-- one digit, or two, of which the first is no zero
module _ (b : ℕ) (d : is_digit b ≡ true) (z : b ≡ 48 → ⊥) where
  one-digit : (s : List ℕ) → IsWidth (b ∷ s) (b ∷ [])
  unfolding decimal
  one-digit s =
      let r = digit_range b d in
      record {
        few = omega arith;
        within = omega arith;
        most = omega (arith, r);
        none = λ e. absurd (z (omega (arith, r)));
        two = λ h. absurd (omega (arith, r));
      }

  two_digits : (c : ℕ) (s : List ℕ) → is_digit c ≡ true → IsWidth (b ∷ c ∷ s) (b ∷ c ∷ [])
  unfolding decimal
  two_digits c s f =
      let r = digit_range b d in
      let q = digit_range c f in
      record {
        few = omega arith;
        within = omega arith;
        most = omega (arith, r, q);
        none = λ e. absurd (z (omega (arith, r, q)));
        two = λ h. refl;
      }

  second-digit : (s : List ℕ) → IsWidth (b ∷ s) (b ∷ digit_run 1 s)
  unfolding digit_run
  second-digit [] = one-digit []
  second-digit (c ∷ s) =
      either (λ (ds : List ℕ). IsWidth (b ∷ c ∷ s) (b ∷ ds)) (is_digit c) (λ e. two_digits c s e) (λ e. one-digit (c ∷ s))

pub width_run_lem : (s : List ℕ) → IsWidth s (width_run s)
unfolding width_run digit_run
width_run_lem [] = no_width []
width_run_lem (b ∷ s) =
    either (IsWidth (b ∷ s)) (eqb b (code "0")) (λ e. no_width (b ∷ s))
    (λ e. either (IsWidth (b ∷ s)) (is_digit b) (λ d. second-digit b d (eqb-false b 48 e) s) (λ d. no_width (b ∷ s)))
