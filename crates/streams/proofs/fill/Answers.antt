use Rattle.std.proofs.Common.{◌≡◌, ℕ, ◌+◌, ◌-◌, ◌≤◌, List, ◌++◌, rules, length, take, sym, ap, ◌∙◌, subst}
use Rattle.std.proofs.Common.{length-take-le}
use Rattle.std.proofs.lemmas.List.{take-append-le}
use Rattle.std.proofs.Math.Seq.{take-append-add}
use Rattle.std.specs.Io.KnownBytes.{Consumes}
use Rattle.std.proofs.KnownBytes.{Consumes-trans}
use borrow.Rule.Slice.PartMut.{put_mid, post_of}
use Rattle.streams.specs.Got.{Gave, Within}
use Rattle.streams.proofs.fill.Goals as goal

-- where a part that begins at a was written, the front up to a place in the part is the old front, and the front of what was written
front : (a k n : ℕ) (xs ys : List ℕ) → a ≤ length xs → n ≤ length ys → take (a + n) (put_mid a k xs ys) ≡ take a xs ++ take n ys
front a k n xs ys within fits =
    subst (λ m. take (m + n) (put_mid a k xs ys) ≡ take a xs ++ take n ys) (length-take-le a xs within)
    (take-append-add (take a xs) (ys ++ post_of a k xs) n ∙ ap (λ l. take a xs ++ l) (take-append-le n ys (post_of a k xs) fits))

pub loop-count-preserved : goal.loop-count-preserved
unfolding Within Gave
loop-count-preserved g c =
    let from = c.loop-count.count in
    let old = c.loop-count.buf in
    let part = c.read_some.new.buf in
    let kept = c.loop-count.invariant in
    let fits : c.in-Ok.n ≤ length part = search rules in
    let whole = front from (length old - from) c.in-Ok.n old part kept.0 fits in
    (search rules, subst (Consumes _ _) (sym whole) (Consumes-trans _ _ _ _ _ kept.1 c.in-Ok.ensures.bytes.0))
