-- The first two of a range of numbers that pass a test, in order.
use Rattle.std.specs.Prelude.{ℕ, zero, suc, Bool, true, false, cond}
use Rattle.agreement.specs.declared.Found.{Found}
use Rattle.agreement.specs.declared.Found.TheVariants.{Nothing, One, Two}

-- what is found once k has passed, and whether two are
unfoldable pub hit : ℕ → Found → Found
hit k Nothing = One k
hit k (One a) = Two a k
hit k (Two a b) = Two a b

unfoldable pub is_two : Found → Bool
is_two Nothing = false
is_two (One a) = false
is_two (Two a b) = true

-- k, k + 1, .., n numbers in all, are looked at, after what was found before; it ends at the second that is found (RULES 8)
unfoldable pub search_from : (ℕ → Bool) → ℕ → ℕ → Found → Found
search_from p zero k h = h
search_from p (suc n) k h = let more = search_from p n (suc k) (cond (p k) (hit k h) h) in cond (is_two h) h more

unfoldable pub first_two : (ℕ → Bool) → ℕ → ℕ → Found
first_two p from n = search_from p n from Nothing

-- through which number the search goes: the second that is found, else the last of all
unfoldable pub through : ℕ → Found → ℕ
through last Nothing = last
through last (One a) = last
through last (Two a b) = b

-- everything here, for proofs that compute
unfoldable pub computes : Unit {0}
unfolding hit is_two search_from first_two through
computes = tt
