-- Bytes put into a buffer one after the other, as many as fit, over plain variables.
-- Assumes nothing.
use Prim.Native.Nat.{ℕ, ◌+◌, ◌≤◌}
use mathlib.Core.List.{List, ◌++◌, append_assoc}
use mathlib.Core.Path.{◌≡◌, refl, sym, ap, ◌∙◌}
use native.Mathlib.Decide.{dec_le}
use native.Mathlib.Nat.{lt_of_not-le}
use native.Mathlib.Omega.{arith}
use lib.ListN.{length, take, drop, length-append}
use lib.Seq.{sets, length-sets, sets-eq, length-take-le, take_at, drop_at, drop-drop}
use Rattle.laws.proofs.Stores.{sets_append, sets_past}
use Rattle.lists.specs.Parts.{Part}
use Rattle.lists.specs.Putting.{Put}

-- one after the other
pub then : {x y before between after : List ℕ} {at middle end : ℕ} → Put x before at between middle → Put y between middle after end
    → Put (x ++ y) before at after end
then {x} {y} {before} {between} {after} {at} {middle} {end} p q =
    record {
      ends = omega (arith, p.ends, q.ends, length-append x y, ap length p.stores, length-sets before at x);
      stores = q.stores ∙ onward (dec_le (at + length x) (length before));
    }
  where
    onward : Dec (at + length x ≤ length before) → sets between middle y ≡ sets before at (x ++ y)
    onward (yes h) =
        let e : middle ≡ at + length x = omega (arith, p.ends) in
        rw (p.stores, e) (sym (sets_append before at x y))
    onward (no h) =
        let l = lt_of_not-le h in
        let e : middle ≡ length before = omega (arith, p.ends) in
        let n = length-sets before at x in
        rw (
          p.stores,
          sets_append before at x y,
          sets_past (sets before at x) y middle (omega arith),
          sets_past (sets before at x) y (at + length x) (omega arith),
        )

-- ---- a part: what is put stands at its end, and what is left to report begins after it

pub part_start : (whole before : List ℕ) → Part whole before before 0 whole
part_start whole before = record { split = refl; kept = refl; fits = omega arith }

pub part_put : {whole before between after left x rest : List ℕ} {n end : ℕ} → Part whole before between n left → left ≡ x ++ rest
    → Put x between n after end → n + length x ≤ length between → Part whole before after end rest
part_put {before = before} {between} {x = x} {rest} {n} {end} p e q l =
    let k = length x in
    let front = take n between ++ x in
    let m : end ≡ n + k = omega (arith, q.ends) in
    let s = q.stores ∙ sets-eq x between n l in
    let t : length front ≡ end = omega (arith, length-append (take n between) x, length-take-le n between p.fits) in
    record {
      split =
          p.split
          ∙ ap (λ (y : List ℕ). take n between ++ y) e
          ∙ sym (append_assoc (take n between) x rest)
          ∙ ap (λ (y : List ℕ). y ++ rest) (sym (ap (take end) s ∙ take_at front (drop (n + k) between) end t));
      kept =
          ap (drop end) s
          ∙ drop_at front (drop (n + k) between) end t
          ∙ sym (drop-drop k n between)
          ∙ ap (drop k) p.kept
          ∙ drop-drop k n before
          ∙ ap (λ (i : ℕ). drop i before) (sym m);
      fits = omega (arith, ap length q.stores, length-sets between n x);
    }

pub kept_length : {x before after : List ℕ} {at end : ℕ} → Put x before at after end → length after ≡ length before
kept_length {x} {before} {at = at} p = ap length p.stores ∙ length-sets before at x

-- the first of two lists fits into both
pub first_fits : (a b : List ℕ) {n : ℕ} → length a ≡ n → n ≤ length (a ++ b)
first_fits a b e = omega (arith, length-append a b)
