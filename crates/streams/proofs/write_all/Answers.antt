use Rattle.std.proofs.Common.{rules, take, sym, ap, subst}
use Rattle.std.proofs.lemmas.List.{take_rest}
use Rattle.std.specs.Io.KnownBytes.{Appends}
use Rattle.std.proofs.KnownBytes.{Appends-trans}
use lib.Seq.{take-add}
use Rattle.streams.specs.Got.{Took, Within}
use Rattle.streams.proofs.write_all.Goals as goal

pub loop-count-preserved : goal.loop-count-preserved
unfolding Within Took
loop-count-preserved g c =
    let done = c.loop-count.count in
    let kept = c.loop-count.invariant in
    let taken = Appends (g.W.Write.contents c.loop-count.output) (g.W.Write.contents c.write_some.new.output) in
    let rest = subst taken (ap (take c.in-Ok.n) (take_rest c.args.buf.now done)) c.in-Ok.ensures.bytes in
    (search rules, subst (Appends _ _) (sym (take-add done c.in-Ok.n c.args.buf.now)) (Appends-trans _ _ _ _ _ kept.1 rest))
