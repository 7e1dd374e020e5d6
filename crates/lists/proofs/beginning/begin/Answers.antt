-- `lists::beginning::begin` meets its contract. Assumes nothing.
use Prim.Native.Nat.{suc, ◌+◌, ◌≤◌}
use mathlib.Core.Path.{◌≡◌, sym}
use native.Mathlib.Omega.{arith}
use borrow.Author.Tests.{le-leb, lt-leb}
use lib.ListN.{length, take}
use lib.Seq.{length-take-le}
use Rattle.laws.specs.Bytes.{bytes}
use Rattle.format.specs.Opening.{opened, opened_into}
use Rattle.format.specs.declared.opening.Side.TheVariants.{Reader}
use Rattle.lists.specs.Lines.{line_length, longest_input}
use Rattle.std.proofs.Common.{rules}
use Rattle.lists.proofs.Splitting.{within}
use Rattle.lists.proofs.Writing.{given_back}
use Rattle.lists.proofs.beginning.begin.Goals as goal
use Rattle.lists.proofs.beginning.begin.Goals.{After-line_end-end, After-open-opened}

-- the format ends within the input
ends : (c : After-line_end-end) → c.line_end-end.result ≤ length c.args.input.now
ends c = (within c.args.input.now 0 (omega arith) c.line_end-end.ensures).1

pub slice_bounds-open-end : goal.slice_bounds-open-end
slice_bounds-open-end c = sym (length-take-le _ _ (ends c))

-- the format is the first line
formats : (c : After-open-opened) →
    let a = c.args in
    let f = take (line_length a.input.now) a.input.now in
    (c.open-opened.result ≡ opened Reader f) × (c.open-opened.new.out ≡ opened_into Reader f a.elements.now)
formats c =
    let l = c in
    let s = l.args.input.now in
    let e : l.line_end-end.result ≡ line_length s = omega (arith, l.line_end-end.ensures) in
    (rw (← e) c.open-opened.ensures.value, rw (← e) c.open-opened.ensures.out_after)

pub returns-then-input-gt-LONGEST_INPUT : goal.returns-then-input-gt-LONGEST_INPUT
unfolding bytes
returns-then-input-gt-LONGEST_INPUT c =
    let p = c in
    let o = c in
    let s = o.args.input.now in
    let t = lt-leb (length s) longest_input (omega arith) in
    record {
      opens = (formats (goal.at.returns-then-input-gt-LONGEST_INPUT c).After-open-opened).0;
      stores =
          (formats (goal.at.returns-then-input-gt-LONGEST_INPUT c).After-open-opened).1;
      puts = rw t (given_back c.bytes.ensures c.new-w.ensures.starts.0 c.new-w.ensures.starts.1 (search rules));
      goes = rw t;
    }

pub overflow_add-result : goal.overflow_add-result
overflow_add-result c = omega (arith, ends (goal.at.overflow_add-result c).After-line_end-end)

pub returns : goal.returns
returns c =
    let p = c in
    let o = c in
    let l = c in
    let s = l.args.input.now in
    let t = le-leb (length s) longest_input (omega arith) in
    let n : l.line_end-end.result + 1 ≡ suc (line_length s) = omega (arith, l.line_end-end.ensures) in
    record {
      opens = (formats (goal.at.returns c).After-open-opened).0;
      stores =
          (formats (goal.at.returns c).After-open-opened).1;
      puts = rw t (given_back c.bytes-2.ensures c.new-w.ensures.starts.0 c.new-w.ensures.starts.1 (search rules));
      goes = rw (t, n);
    }
