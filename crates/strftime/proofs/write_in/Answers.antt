-- `strftime::write_in` meets its contract: the entries have room for all elements of a format that is not too long.
use Prim.Native.Nat.{ℕ}
use native.Mathlib.Omega.{arith}
use lib.ListN.{length-replicate}
use Rattle.format.specs.declared.opening.Side.TheVariants.{Writer}
use Rattle.std.proofs.lemmas.Result.{err_from_is_err_and}
use Rattle.strftime.proofs.Order.{Stored, all_stored, whole_format, not_opened}
use Rattle.strftime.proofs.write_in.Given.{Over}
use Rattle.strftime.proofs.write_in.Goals as goal
use Rattle.strftime.proofs.write_in.Goals.{In_ok-count}

holds : (g : Over) (c : In_ok-count g) → Stored Writer c.args.format.now c.in_ok-count.count c.open.new.out
holds g c =
    all_stored Writer c.args.format.now _ (omega (arith, length-replicate {A = ℕ} g.row.N 0, c.requires.format_bound)) c.open.ensures.value
    c.open.ensures.out_after c.in_ok-count.was

pub shared_whole_as_front-write_any : goal.shared_whole_as_front-write_any
shared_whole_as_front-write_any g c =
    let h = holds g (goal.at.shared_whole_as_front-write_any g c).In_ok-count in
    (omega (arith, h.room, length-replicate {A = ℕ} g.row.N 0), omega (arith, c.requires.entries_bound))

pub returns-in_err-count : goal.returns-in_err-count
returns-in_err-count g c =
    let p = err_from_is_err_and c.from_residual.result c.from_residual.ensures.1 in
    rw (p.1, p.2) (not_opened _ _ _ c.open.ensures.value _ c.in_err-count.was)

pub returns : goal.returns
returns g c = whole_format _ _ _ (holds g (goal.at.returns g c).In_ok-count) c.write_any.ensures
