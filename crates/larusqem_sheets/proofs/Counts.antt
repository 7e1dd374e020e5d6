-- What adding gives in words: every count has 32 bits.
-- Assumes nothing.
use Prim.Native.Nat.{ℕ, ◌^◌, ◌<◌}
use mathlib.Core.List.{List, [], ◌∷◌}
use mathlib.Core.Path.{◌≡◌, ap}
use native.Mathlib.Omega.{arith}
use lib.ListN.{get_or}
use Rattle.sheet_list.specs.Adding.{number_of, place_of, Held, Outcome, outcome_of, adding_words, sheet_at}
use Rattle.sheet_list.specs.declared.adding.Added.{Added}
use Rattle.sheet_list.proofs.Steps.{Bounded, all_bounded}
use Rattle.larusqem_sheets.specs.Sheets.{held_by, counts_of, answer_of}

bounded : (ws : List ℕ) (h : Held) → Bounded 0 h (adding_words ws h)
unfolding adding_words
bounded ws h = all_bounded (sheet_at ws) 0 _ h

module _ (ws w t counts : List ℕ) (small : (i : ℕ) → get_or counts i 0 < 2 ^ 32) (r : Added) {x y : List ℕ}
    (e : outcome_of r x y ≡ adding_words ws (held_by w t counts)) where
  within : Bounded 0 (held_by w t counts) (outcome_of r x y)
  within = rw e (bounded ws (held_by w t counts))

  pub count_small : r.count < 2 ^ 32
  count_small = omega (arith, within.count, small 0)

  pub weeks_small : r.weeks < 2 ^ 32
  weeks_small = omega (arith, within.weeks, small 1)

  pub index_small : r.index < 2 ^ 32
  index_small = omega (arith, within.index, count_small)

pub told : (ws w t counts : List ℕ) (r : Added) {x y : List ℕ} → outcome_of r x y ≡ adding_words ws (held_by w t counts)
    → (x ≡ (adding_words ws (held_by w t counts)).held.words)
    × ((y ≡ (adding_words ws (held_by w t counts)).held.table)
    × ((r.count ∷ r.weeks ∷ [] ≡ counts_of (adding_words ws (held_by w t counts)))
    × (number_of r.refused ∷ place_of r.refused ∷ r.index ∷ [] ≡ answer_of (adding_words ws (held_by w t counts)))))
told ws w t counts r e = (
  ap (λ (o : Outcome). o.held.words) e,
  (
    ap (λ (o : Outcome). o.held.table) e,
    (ap counts_of e, ap answer_of e),
  ),
)
