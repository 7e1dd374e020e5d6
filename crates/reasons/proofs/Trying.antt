-- Trying one kind after the other, over plain variables.
-- Assumes nothing.
use Prim.Native.Nat.{ℕ, suc, ◌+◌, ◌-◌, ◌≤◌, ◌<◌}
use mathlib.Core.Bool.{Bool, true, false, cond}
use mathlib.Core.Path.{◌≡◌, refl, ap}
use native.Mathlib.Numerals.{add-one}
use native.Mathlib.Omega.{arith}
use lib.Seq.{set-get_or}
use Rattle.agreement.specs.Agreement.{said}
use Rattle.agreement.specs.declared.Facts.{Facts}
use Rattle.laws.specs.Lists.{range}
use Rattle.reasons.specs.Quarrels.{none_agrees, without, tried, all_tried}
use Rattle.reasons.specs.declared.About.{About}

-- without a kind that was not said the facts are the same
pub without_unsaid : (k : ℕ) (f : Facts) → said f k ≡ 0 → without k f ≡ f
unfolding without
without_unsaid k f e = ap (λ (l : _). record { said = l }) (rw (← e) (set-get_or f.said k 0))

module _ (a : About) (k : ℕ) (f : Facts) where
  pub tried_unsaid : said f k ≡ 0 → tried a k f ≡ f
  unfolding tried
  tried_unsaid e = rw (without_unsaid k f e) (same (none_agrees a f))
    where
      same : (b : Bool) → cond b f f ≡ f
      same true = refl
      same false = refl

  pub tried_out : none_agrees a (without k f) ≡ true → tried a k f ≡ without k f
  unfolding tried
  tried_out e = rw e

  pub tried_kept : none_agrees a (without k f) ≡ false → tried a k f ≡ f
  unfolding tried
  tried_kept e = rw e

pub ruleset tried_ways = (tried_unsaid, tried_out, tried_kept)

-- one kind more of those in a row
module _ (a : About) (k last : ℕ) (f : Facts) where
  pub row_more : k ≤ last → all_tried a (range k (last + 1 - k)) f ≡ all_tried a (range (k + 1) (last + 1 - (k + 1))) (tried a k f)
  unfolding all_tried range
  row_more h =
      let more : last + 1 - k ≡ suc (last + 1 - suc k) = omega arith in
      rw (more, add-one k)

  pub row_done : last < k → all_tried a (range k (last + 1 - k)) f ≡ f
  unfolding all_tried range
  row_done h =
      let none : last + 1 - k ≡ 0 = omega arith in
      rw none
