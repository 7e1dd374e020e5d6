-- What a part has so far, over plain variables: what stands for the texts from `from` to `next` is put, and what is for those from `next`
-- on is left.
-- Assumes nothing.
use Prim.Native.Nat.{ℕ, ◌+◌, ◌≤◌, ◌<◌}
use mathlib.Core.List.{List, ◌++◌}
use mathlib.Core.Path.{◌≡◌, refl, ◌∙◌}
use native.Mathlib.Omega.{arith}
use lib.ListN.{length}
use Rattle.lists.specs.Parts.{Part}
use Rattle.lists.specs.Putting.{Writes}
use Rattle.lists.specs.declared.putting.Writer.{Writer}
use Rattle.lists.proofs.Puts.{part_start, part_put, kept_length}

pub record Listing (whole : List ℕ) (first now : Writer) (rest : List ℕ) (from next : ℕ) : Type 0 where
  pub same_buffer : now.out.ghost_name ≡ first.out.ghost_name
  pub kept : length now.out.now ≡ length first.out.now
  pub puts : Part whole first.out.now now.out.now now.at rest
  pub ahead : from ≤ next
  pub some : 0 < now.at → from < next

pub list_start : (whole : List ℕ) (w : Writer) (from : ℕ) → w.at ≡ 0 → Listing whole w w whole from from
list_start whole w from e =
    record {
      same_buffer = refl;
      kept = refl;
      puts = rw e (part_start whole w.out.now);
      ahead = omega arith;
      some = λ h. omega arith;
    }

pub list_next : {whole rest rest' x : List ℕ} {first now after : Writer} {from next next' : ℕ} → Listing whole first now rest from next
    → rest ≡ x ++ rest' → Writes x now after → now.at + length x ≤ length now.out.now → next < next'
    → Listing whole first after rest' from next'
list_next l e p m h =
    record {
      same_buffer = p.same_buffer ∙ l.same_buffer;
      kept = kept_length p.puts ∙ l.kept;
      puts = part_put l.puts e p.puts m;
      ahead = omega (arith, l.ahead);
      some = λ _. omega (arith, l.ahead);
    }

-- in the buffer when it is given back
pub listed : {whole rest before last : List ℕ} {first now : Writer} {from next : ℕ} → Listing whole first now rest from next
    → first.out.now ≡ before → last ≡ now.out.now → Part whole before last now.at rest
listed l e f = rw (f, ← e) l.puts
