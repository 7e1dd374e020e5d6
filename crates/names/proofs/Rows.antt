-- A name in a row of nine bytes; a text copied over a buffer.
use Prim.Native.Nat.{ℕ, ◌+◌, ◌≤◌, ◌<◌, min}
use mathlib.Core.Path.{◌≡◌, refl, sym}
use mathlib.Core.Bool.{true}
use mathlib.Core.List.{List, [], ◌∷◌, ◌++◌}
use native.Mathlib.Numerals.{add-one}
use native.Mathlib.Decide.{dec_lt}
use native.Mathlib.Omega.{arith}
use borrow.Author.Tests.{leb-true}
use lib.Dec.{leb}
use lib.ListN.{length, get_or, take, drop, set, replicate, length-append, length-take, length-replicate, drop_of_length-le}
use lib.Seq.{sets, drop-cons, take-take, take-append_seam}
use Rattle.laws.specs.Lists.{every}
use Rattle.laws.proofs.Lists.{each}
use Rattle.laws.proofs.Stores.{sets_past}
use Rattle.names.specs.Case.{cased}
use Rattle.names.specs.Names.{names_of, name_at, computes}
use Rattle.names.specs.Rows.{padded}
use Rattle.names.specs.declared.names.Case.{Case}
use Rattle.names.specs.declared.names.Names.{Names}
use Rattle.names.specs.declared.names.Names.TheVariants.{Weekdays, Months, Halves}
use Rattle.names.proofs.Cased.{cased_length, cased_at}

-- ---- a name in its row

nine_letters : (t : Names) → every (λ (n : List ℕ). leb (length n) 9) (names_of t) ≡ true
unfolding every computes
nine_letters Weekdays = refl
nine_letters Months = refl
nine_letters Halves = refl

at_most_nine : (t : Names) (i : ℕ) → length (name_at t i) ≤ 9
unfolding name_at
at_most_nine t i =
    leb-true (length (name_at t i)) 9
    (each (λ (n : List ℕ). leb (length n) 9) [] (names_of t) (nine_letters t) i (λ l. refl))

padded_length : (x : List ℕ) → length (padded x) ≡ 9
unfolding padded
padded_length x = simp (length-take, length-append, length-replicate) (omega arith)

unpadded : (x : List ℕ) → length x ≤ 9 → take (length x) (padded x) ≡ x
unfolding padded
unpadded x h = rw (take-take (length x) 9 (x ++ replicate 9 32) h) (take-append_seam x (replicate 9 32))

-- a name's length and its row
pub record Held (t : Names) (i n : ℕ) (row : List ℕ) : Type 0 where
  pub long : n ≡ length (name_at t i)
  pub fits : n ≤ length row
  pub name : take n row ≡ name_at t i

pub held : (t : Names) (i : ℕ) {n : ℕ} {row : List ℕ} → n ≡ length (name_at t i) → row ≡ padded (name_at t i) → Held t i n row
held t i e p =
    rw (e, p)
    record {
      long = refl;
      fits = rw (padded_length (name_at t i)) (at_most_nine t i);
      name = unpadded (name_at t i) (at_most_nine t i);
    }

-- ---- copying

module _ (k : Case) (x buf : List ℕ) (j : ℕ) where
  -- the next byte is stored
  pub stored : {b : ℕ} → j < length x → b ∷ [] ≡ cased k (get_or x j 0 ∷ [])
      → sets (set buf j b) (j + 1) (drop (j + 1) (cased k x)) ≡ sets buf j (drop j (cased k x))
  stored h e =
      let m : j < length (cased k x) = rw (cased_length k x) h in
      rw (cased_at k x j e, add-one j, drop-cons (cased k x) j 0 m)

  -- the buffer is full, or the text has ended
  pub stored_all : min (length buf) (length x) ≤ j → buf ≡ sets buf j (drop j (cased k x))
  stored_all h = go (dec_lt j (length buf))
    where
      go : Dec (j < length buf) → buf ≡ sets buf j (drop j (cased k x))
      go (yes l) = rw (drop_of_length-le (cased k x) {i = j} (rw (cased_length k x) (omega arith)))
      go (no l) = sym (sets_past buf (drop j (cased k x)) j (omega arith))
