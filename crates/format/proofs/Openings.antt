-- What the answer to opening a format into a slice says of the format and of the slice.
-- Assumes nothing.
use Prim.Native.Nat.{ℕ, ◌*◌, ◌≤◌, ◌<◌}
use mathlib.Core.Bool.{Bool, true, false, cond}
use mathlib.Core.List.{List, ◌++◌}
use mathlib.Core.Path.{◌≡◌, refl, sym, ◌∙◌}
use native.Mathlib.Omega.{arith}
use borrow.Author.Tests.{leb-true, leb-false, le-leb}
use lib.Dec.{leb}
use lib.ListN.{length, take, drop}
use lib.Seq.{take_all, take-append_seam}
use Rattle.laws.proofs.Cases.{clash}
use Rattle.laws.proofs.Stores.{sets_start}
use Rattle.format.specs.Opening.{Ended, longest, most_elements, opening, closed, opened, opened_into}
use Rattle.format.specs.Opening.Ended.{Whole, BadAt}
use Rattle.format.specs.declared.opening.Side.{Side}
use Rattle.format.proofs.Bound.{bound}
use Rattle.format.proofs.Refused.{bad_within}
use Rattle.std.specs.Prelude.{Err, Ok, Result, ℕ}
use Rattle.format.specs.declared.opening.Unopened.TheVariants.{Bad, TooLong}
use Rattle.format.specs.declared.opening.Unopened.{Unopened}

-- the format f opens whole, to n elements
pub record Opens (side : Side) (f : List ℕ) (n : ℕ) : Type 0 where
  pub short : length f ≤ longest
  pub whole : (opening side f).ended ≡ Whole
  pub count : n ≡ length (opening side f).elements
  pub few : n ≤ most_elements

-- its first bad % is at p
pub record Breaks (side : Side) (f : List ℕ) (p : ℕ) : Type 0 where
  pub short : length f ≤ longest
  pub bad : (opening side f).ended ≡ BadAt p
  pub within : p < length f

done : (short : Bool) (d : Ended) (n k : ℕ) → cond short (closed n d) (Err TooLong) ≡ Ok k → (short ≡ true) × (d ≡ Whole) × (k ≡ n)
unfolding closed
done true Whole n k e = (refl, refl, (cc))
done true (BadAt p) n k e = clash (cc)
done false d n k e = clash (cc)

bad : (short : Bool) (d : Ended) (n p : ℕ) → cond short (closed n d) (Err TooLong) ≡ Err (Bad p) → (short ≡ true) × (d ≡ BadAt p)
unfolding closed
bad true Whole n p e = clash (cc)
bad true (BadAt q) n p e = (refl, (cc))
bad false d n p e = clash (cc)

long : (short : Bool) (d : Ended) (n : ℕ) → cond short (closed n d) (Err TooLong) ≡ Err TooLong → short ≡ false
unfolding closed
long true Whole n e = clash (cc)
long true (BadAt q) n e = clash (cc)
long false d n e = refl

-- r is the answer
module _ (side : Side) (f : List ℕ) {r : Result ℕ Unopened} (a : r ≡ opened side f) where
  pub opened_done : {n : ℕ} → r ≡ Ok n → Opens side f n
  unfolding opened
  opened_done {n} e =
      let o = opening side f in
      let w = done (leb (length f) longest) o.ended (length o.elements) n (sym a ∙ e) in
      let l = leb-true (length f) longest w.0 in
      record { short = l; whole = w.1; count = w.2; few = omega (arith, bound side f, w.2) }

  pub opened_bad : {p : ℕ} → r ≡ Err (Bad p) → Breaks side f p
  unfolding opened
  opened_bad {p} e =
      let o = opening side f in
      let w = bad (leb (length f) longest) o.ended (length o.elements) p (sym a ∙ e) in
      record { short = leb-true (length f) longest w.0; bad = w.1; within = bad_within side f w.1 }

  pub opened_long : r ≡ Err TooLong → longest < length f
  unfolding opened
  opened_long e =
      let o = opening side f in
      leb-false (length f) longest (long (leb (length f) longest) o.ended (length o.elements) (sym a ∙ e))

-- f is opened into xs, which then holds ys: where there was room for all elements, they are its first entries
pub stored : (side : Side) (f xs : List ℕ) {n : ℕ} {ys : List ℕ} → ys ≡ opened_into side f xs → Opens side f n → n ≤ length xs
    → take n ys ≡ (opening side f).elements
unfolding opened_into
stored side f xs {n} {ys} s o h =
    let es = (opening side f).elements in
    let rest = drop (length es) xs in
    let fits : length es ≤ length xs = omega (arith, o.count) in
    let q : ys ≡ es ++ rest = s ∙ rw (le-leb (length f) longest o.short, sets_start xs es, take_all (length xs) es fits) in
    rw (q, o.count) (take-append_seam es rest)

-- 13 entries to two bytes are room enough
pub room : (side : Side) (f : List ℕ) {n m : ℕ} → Opens side f n → 13 * length f ≤ 2 * m → n ≤ m
room side f o h = omega (arith, bound side f, o.count)
