-- What is put at a writer's place, one thing after the other, over plain variables.
-- Assumes nothing.
use Prim.Native.Nat.{ℕ, ◌+◌, ◌≤◌, ◌<◌}
use mathlib.Core.List.{List, [], ◌∷◌, ◌++◌, map}
use mathlib.Core.Path.{◌≡◌, refl, ap, ◌∙◌}
use native.Mathlib.Decide.{dec_le}
use native.Mathlib.Nat.{lt_of_not-le}
use native.Mathlib.Numerals.{add-one}
use native.Mathlib.Omega.{arith}
use lib.ListN.{length, get_or, take}
use lib.Seq.{sets, take-suc}
use Rattle.std.specs.Prelude.{min}
use Rattle.laws.proofs.Stores.{sets_past}
use Rattle.std.proofs.lemmas.List.{map-append}
use Rattle.lists.specs.Putting.{Put, Writes, each}
use Rattle.lists.specs.declared.putting.Writer.{Writer}
use Rattle.lists.proofs.Puts as puts

pub nothing : (w : Writer) → Writes [] w w
nothing w = record { same_buffer = refl; puts = record { ends = omega (arith, w.inside); stores = refl } }

-- one after the other
pub then : {x y : List ℕ} {before between after : Writer} → Writes x before between → Writes y between after → Writes (x ++ y) before after
then p q = record { same_buffer = q.same_buffer ∙ p.same_buffer; puts = puts.then p.puts q.puts }

-- what is put from a buffer's front on stands in it when it is given back
pub given_back : {x room last : List ℕ} {before after : Writer} → Writes x before after → before.out.now ≡ room → before.at ≡ 0
    → last ≡ after.out.now → Put x room 0 last after.at
given_back p e f g = rw (g, ← e, ← f) p.puts

-- what is put from any place on, by a writer that begins there or at the buffer's end
pub put_from : {x room last : List ℕ} {at : ℕ} {before after : Writer} → Writes x before after → before.out.now ≡ room
    → before.at ≡ min at (length room) → last ≡ after.out.now → Put x room at last after.at
put_from {x} {room} {last} {at} {before} {after} p e f g =
    record { ends = omega (arith, p.puts.ends, ap length e, f); stores = g ∙ p.puts.stores ∙ rw (e, f) (cut (dec_le at (length room))) }
  where
    cut : Dec (at ≤ length room) → sets room (min at (length room)) x ≡ sets room at x
    cut (yes h) = let q : min at (length room) ≡ at = omega (arith, h) in rw q refl
    cut (no h) =
        let l = lt_of_not-le h in
        rw (sets_past room x (min at (length room)) (omega arith), sets_past room x at (omega arith))

-- each of some, one more
pub each_start : (f : ℕ → List ℕ) (w : Writer) → Writes (each f 0) w w
unfolding each
each_start f w = nothing w

pub each_next : (f : ℕ → List ℕ) (i : ℕ) {before between after : Writer} → Writes (each f i) before between → Writes (f i) between after
    → Writes (each f (i + 1)) before after
unfolding each
each_next f i p q = rw add-one (then p q)

-- the bytes of a list that a function makes of it, one more
pub mapped : (f : ℕ → ℕ) (s : List ℕ) (i : ℕ) {before between after : Writer} → i < length s → Writes (map f (take i s)) before between
    → Writes (f (get_or s i 0) ∷ []) between after → Writes (map f (take (i + 1) s)) before after
mapped f s i h p q = rw (add-one i, take-suc s i 0 h, map-append f (take i s) (get_or s i 0 ∷ [])) (then p q)
