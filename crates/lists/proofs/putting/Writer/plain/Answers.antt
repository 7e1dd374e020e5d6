-- `lists::putting::Writer::plain` meets its contract. Assumes nothing.
use Prim.Native.Nat.{ℕ, ◌≤◌}
use mathlib.Core.List.{List}
use mathlib.Core.Path.{◌≡◌, sym, ap, ◌∙◌}
use native.Mathlib.Omega.{arith}
use lib.Dec.{lit≤}
use lib.ListN.{length, drop, replicate}
use lib.Seq.{length-take-le, take_at}
use Rattle.text.specs.Digits.{plain}
use Rattle.lists.proofs.Puts.{first_fits}
use Rattle.text.proofs.Fill.{plain_most, plain_places}
use Rattle.lists.proofs.putting.Writer.plain.Goals as goal
use Rattle.lists.proofs.putting.Writer.plain.Goals.{After-digit_count-count, After-write_number}

-- a number of 32 bits has at most ten digits
ten : (c : After-digit_count-count) → c.digit_count-count.result ≤ 10
ten c = rw c.digit_count-count.ensures (plain_most 10 c.args.n (lit≤ tt) (omega arith))

-- and these are written
digits_are : (c : After-write_number) → c.write_number.new.out ≡ plain c.args.n
digits_are c =
    let d = c in
    let n = d.args.n in
    c.write_number.ensures ∙ rw (
      length-take-le _ _
          (ten (goal.at.After-write_number c).After-digit_count-count),
      d.digit_count-count.ensures,
    ) (plain_places 48 n)

pub slice_bounds-digits-end : goal.slice_bounds-digits-end
slice_bounds-digits-end c = ten c

pub slice_bounds-write_number-end : goal.slice_bounds-write_number-end
slice_bounds-write_number-end c = sym (length-take-le _ _ (ten (goal.at.slice_bounds-write_number-end c).After-digit_count-count))

-- there are as many as were counted
as_many : (c : After-write_number) → length c.write_number.new.out ≡ c.digit_count-count.result
as_many c = ap length (digits_are c) ∙ sym c.digit_count-count.ensures

pub slice_bounds-digits-end-2 : goal.slice_bounds-digits-end-2
slice_bounds-digits-end-2 c =
    let w = c in
    first_fits w.write_number.new.out (drop w.digit_count-count.result (replicate 10 0))
    (as_many (goal.at.slice_bounds-digits-end-2 c).After-write_number)

pub slice_bounds-bytes-end : goal.slice_bounds-bytes-end
slice_bounds-bytes-end c =
    let w = c in
    let rest : List ℕ = drop w.digit_count-count.result (replicate 10 0) in
    sym (length-take-le _ _ (first_fits w.write_number.new.out rest (as_many (goal.at.slice_bounds-bytes-end c).After-write_number)))

pub returns : goal.returns
returns c =
    let w = c in
    rw (
      take_at w.write_number.new.out _ w.digit_count-count.result (as_many (goal.at.returns c).After-write_number),
      digits_are
          (goal.at.returns c).After-write_number,
    )
    at c.bytes.ensures
