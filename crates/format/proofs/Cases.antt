-- Some formats and what they open to, by computing: an unknown and an unfinished conversion alike end at the offset of their %.
use Prim.Native.Nat.{◌+◌, ◌*◌}
use Prim.Native.String.{String}
use mathlib.Core.List.{[], ◌∷◌, map}
use mathlib.Core.Path.{◌≡◌, refl}
use lib.ListN.{length, replicate}
use Rattle.laws.specs.Bytes.{bytes}
use Rattle.conversions.specs.Conversions.{computes as rows-compute}
use Rattle.format.specs.Opening.{opening, open_to, computes}
use Rattle.format.specs.Opening.Ended.{Whole, BadAt}
use Rattle.format.specs.declared.opening.Side.TheVariants.{Writer, Reader}
use Rattle.std.specs.Prelude.{None}

where_they_end : map (λ (s : String). (opening Reader (bytes s)).ended)
    ("" ∷ "%" ∷ "%E" ∷ "%Ed" ∷ "%Q" ∷ "%5m" ∷ "%E%" ∷ "%d %s" ∷ "100%" ∷ "%Ey%Oy%n%t%%" ∷ "%c %x %X %D %F %R %T %r" ∷ [])
    ≡ Whole ∷ BadAt 0 ∷ BadAt 0 ∷ BadAt 0 ∷ BadAt 0 ∷ BadAt 0 ∷ BadAt 0 ∷ BadAt 3 ∷ BadAt 3 ∷ Whole ∷ Whole ∷ []
unfolding computes rows-compute
where_they_end = refl

-- with flags and widths: those that the writer takes, and those that it refuses too
taken_for_writing : map (λ (s : String). (opening Writer (bytes s)).ended)
    ("%5m" ∷ "%_5m" ∷ "%-5d" ∷ "%0e" ∷ "%010Y" ∷ "%^a" ∷ "%^9B" ∷ "%99p" ∷ "%^P" ∷ "%_5Ey" ∷ "%-Od" ∷ "%d%c%n%t%%%EY" ∷ [])
    ≡ replicate 12 Whole
unfolding computes rows-compute
taken_for_writing = refl

refused_for_writing : map (λ (s : String). (opening Writer (bytes s)).ended)
    ("%00d" ∷ "%100d" ∷ "%5^a" ∷ "%_-d" ∷ "%E5y" ∷ "%E_y" ∷ "%O5d" ∷ "%5" ∷ "%_" ∷ "%5E" ∷ "%_Q" ∷ "%5c" ∷ "%^x" ∷ "%5Ex" ∷ "%5n"
    ∷ "%-t" ∷ "%5%" ∷ "%^d" ∷ "%_a" ∷ "%-p" ∷ "%0P" ∷ "%#a" ∷ [])
    ≡ replicate 22 (BadAt 0)
unfolding computes rows-compute
refused_for_writing = refl

-- a flag and a width in an element
styled_element : (opening Writer (bytes "x%_5m")).elements ≡ 120 ∷ (95 * 33554432 + 5 * 262144 + 2 * 256 + 109) ∷ []
unfolding computes rows-compute
styled_element = refl

-- the elements of %D have the offset of its %, 7
elements : (opening Reader (bytes "a%n%t%%%D%Q.")).elements
    ≡ 97 ∷ 10 ∷ 9 ∷ 37 ∷ (8 * 256 + 109) ∷ 47 ∷ (8 * 256 + 100) ∷ 47 ∷ (8 * 256 + 121) ∷ []
unfolding computes rows-compute
elements = refl

-- %c names %T: two deep it opens, to 13 elements, and one deep it does not
two_deep : length (opening Reader (bytes "%c")).elements ≡ 13
unfolding computes rows-compute
two_deep = refl

one_deep : (open_to Reader 1 None (bytes "x%c")).ended ≡ BadAt 1
unfolding computes rows-compute
one_deep = refl
