-- `strftime::write_plain` meets its contract: the entries have room for all elements of a format that is not too long.
use Prim.Native.Nat.{ℕ}
use native.Mathlib.Omega.{arith}
use lib.ListN.{length-replicate}
use Rattle.format.specs.declared.opening.Side.TheVariants.{Reader}
use Rattle.strftime.proofs.Lengths.{text_most}
use Rattle.strftime.proofs.Order.{Stored, all_stored, all_unstyled, plain_format}
use Rattle.strftime.proofs.write_plain.Given.{Over}
use Rattle.strftime.proofs.write_plain.Goals as goal
use Rattle.strftime.proofs.write_plain.Goals.{In-Ok}

holds : (g : Over) (c : In-Ok g) → Stored Reader c.args.format.now c.in-Ok.count c.open.new.out
holds g c =
    all_stored Reader c.args.format.now _ (omega (arith, length-replicate {A = ℕ} g.row.N 0, c.requires.format_bound)) c.open.ensures.value
    c.open.ensures.out_after c.in-Ok.is

pub shared_whole_as_front-write_opened : goal.shared_whole_as_front-write_opened
shared_whole_as_front-write_opened g c =
    let h = holds g (goal.at.shared_whole_as_front-write_opened g c).In-Ok in
    (omega (arith, h.room, length-replicate {A = ℕ} g.row.N 0), omega (arith, c.requires.entries_bound))

pub write_opened-requires-clause-most_bound : goal.write_opened-requires-clause-most_bound
write_opened-requires-clause-most_bound g c =
    let all = holds g (goal.at.write_opened-requires-clause-most_bound g c).In-Ok in
    let u = all_unstyled c.args.format.now (λ k. omega (arith, c.type_inv.format k)) all in
    let long = text_most c.args.valid.moment c.args.valid.valid _ u.1 in
    rw all.first (rw (all.first, ← all.opens.count) at long)

pub returns : goal.returns
returns g c =
    plain_format _ _ _ (λ k. omega (arith, c.type_inv.format k)) (holds g (goal.at.returns g c).In-Ok) c.write_opened.ensures
