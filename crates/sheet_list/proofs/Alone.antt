-- What is counted alone is what adding counts.
-- Assumes nothing.
use Prim.Native.Nat.{ℕ, suc, ◌<◌}
use mathlib.Core.Bool.{Bool, true, false, cond, not, ◌&&◌, ◌||◌}
use mathlib.Core.Path.{◌≡◌, refl}
use native.Mathlib.Omega.{arith}
use borrow.Author.Tests.{ne_eqb}
use lib.Dec.{eqb}
use lib.ListN.{length}
use Rattle.sheets.specs.Sheets.{is_packing, week_of}
use Rattle.sheet_list.specs.Adding.{Held, list_of, table_length, is_held, is_full, with, Outcome, adding_word}
use Rattle.sheet_list.specs.Ascending.{inserted}
use Rattle.sheet_list.specs.Tallies.{tallies, has_room, with_sheet, CountsAlike}
use Rattle.sheet_list.specs.Weeks.{weeks_of, has_week}
use Rattle.sheet_list.proofs.Counting.{inserted_weeks}
use Rattle.sheet_list.proofs.Holding.{sound, weeks_held, over_front}
use Rattle.sheet_list.proofs.Steps.{word_full, word_added}
use Rattle.sheet_list.proofs.Tallying.{sheet_counted, sheet_left}

not_and : (a b : Bool) → (not a || b) ≡ not (a && not b)
not_and true true = refl
not_and true false = refl
not_and false b = refl

module _ (i x n : ℕ) (h : Held) (p : is_packing x ≡ true) (e : is_held h ≡ true) (l : h.count < length h.words) where
  room_is : has_room (week_of x) (weeks_of (list_of h)) ≡ not (is_full x h)
  unfolding has_room is_full
  room_is =
      rw (weeks_held h (sound h e), ne_eqb h.count (length h.words) (λ z. omega (arith, z)))
      (not_and (eqb h.weeks table_length) (has_week (week_of x) (weeks_of (list_of h))))

  list_then : list_of (with x h) ≡ inserted x (list_of h)
  unfolding with
  list_then = over_front (inserted x (list_of h)) h.words

  abbrev Alike : Outcome → Type 0
  Alike o = with_sheet x (tallies (weeks_of (list_of h)) n) ≡ tallies (weeks_of (list_of o.held)) (cond (eqb o.number 0) n (suc n))

  one : Alike (adding_word i x h)
  one = go (is_full x h) refl
    where
      go : (b : Bool) → is_full x h ≡ b → Alike (adding_word i x h)
      go true f =
          rw (← word_full i x h e f) (sheet_left x (tallies (weeks_of (list_of h)) n) (rw (p, room_is, f)))
      go false f =
          rw (← word_added i x h e f refl, list_then, inserted_weeks x (list_of h))
          (sheet_counted x (tallies (weeks_of (list_of h)) n) (rw (p, room_is, f)))

pub counts_alike : CountsAlike
unfolding CountsAlike
counts_alike i x n h p e l = one i x n h p e l
