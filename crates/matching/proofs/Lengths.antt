-- How much of a text white space, digits and names take.
-- Assumes nothing.
use Prim.Native.Nat.{ℕ, zero, suc, ◌≤◌, ◌<◌}
use mathlib.Core.List.{List, [], ◌∷◌}
use mathlib.Core.Path.{◌≡◌}
use native.Mathlib.Omega.{arith}
use lib.Dec.{lit≤}
use lib.ListN.{length}
use Rattle.laws.proofs.Cases.{picked}
use Rattle.text.specs.Digits.{is_digit, digit_run}
use Rattle.names.specs.Names as names
use Rattle.names.specs.Names.{names_of, forms_of, read_name}
use Rattle.text.specs.Space.{is_space, spaces}
use Rattle.names.specs.declared.names.Names.{Names}
use Rattle.names.specs.declared.names.Names.TheVariants.{Weekdays, Months, Halves}
use Rattle.names.proofs.Forms.{of_name_lem, is_read}
use Rattle.names.proofs.Goes.{goes_length}
use Rattle.std.specs.Prelude.{Some}
use Rattle.names.specs.declared.names.NameRead.{NameRead}

-- ---- white space and digits
pub spaces_most : (s : List ℕ) → spaces s ≤ length s
unfolding spaces
spaces_most [] = lit≤ tt
spaces_most (b ∷ s) =
    picked (λ (n : ℕ). n ≤ suc (length s)) (is_space b) (omega (arith, spaces_most s)) (omega arith)

pub run_most : (w : ℕ) (s : List ℕ) → length (digit_run w s) ≤ length s
unfolding digit_run
run_most zero s = omega arith
run_most (suc w) [] = lit≤ tt
run_most (suc w) (b ∷ s) =
    picked (λ (d : List ℕ). length d ≤ suc (length s)) (is_digit b) (omega (arith, run_most w s)) (omega arith)

-- ---- names
-- a name that was read: its place in its table, and its length
pub record Named (names : ℕ) (s : List ℕ) (i n : ℕ) : Type 0 where
  pub place : i < names
  pub some : 1 ≤ n
  pub long : n ≤ length s

pub few_names : (t : Names) → length (names_of t) ≤ 12
unfolding names.computes
few_names Weekdays = lit≤ tt
few_names Months = lit≤ tt
few_names Halves = lit≤ tt

pub name_named : (t : Names) (s : List ℕ) {x : NameRead} → read_name t s ≡ Some x → Named (length (names_of t)) s x.index x.length
unfolding read_name
name_named t s {x} e =
    let r = is_read (forms_of t) s {j = x.index} {n = x.length} {f = x.form} e in
    let o = of_name_lem t r.form r.listed in
    record {
      place = rw (← r.place) o.place;
      some = rw (← r.long) o.some;
      long = rw (← r.long) (goes_length r.form.letters s r.fits);
    }
