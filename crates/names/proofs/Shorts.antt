-- The short forms as the code looks for them: the first letters of the text, folded, are those of a row exactly if the text goes on with
-- the short form that the row holds.
use Prim.Native.Nat.{ℕ, suc, ◌+◌, ◌≤◌, ◌<◌}
use mathlib.Core.Path.{◌≡◌, refl, sym, ◌∙◌}
use mathlib.Core.Bool.{Bool, true, false, cond, not, ◌&&◌, and-eq-true_iff, false≢true}
use mathlib.Core.List.{List, [], ◌∷◌, ◌++◌, map}
use native.Mathlib.Decide.{dec_lt}
use borrow.Author.Tests.{not-true, eqb-true, lt-ltb, le-ltb}
use lib.Dec.{eqb, ltb}
use lib.ListN.{length, get_or, take, length-map}
use Rattle.std.specs.Prelude.{Option, Some, None, nat_eq, MatchOption}
use Rattle.std.specs.List.{position, position_or_len}
use Rattle.std.specs.Cmp.Lexicographic.{pointwise}
use Rattle.laws.specs.Lists.{every}
use Rattle.laws.proofs.Cases.{picked}
use native.Mathlib.Omega.{arith}
use Rattle.names.specs.Case.{fold}
use Rattle.names.specs.Names.{names_of, short, goes_on, computes}
use Rattle.names.specs.Rows.{same, place_of, place_in, short_place}
use Rattle.names.specs.declared.names.Names.{Names}
use Rattle.names.specs.declared.names.Names.TheVariants.{Weekdays, Months, Halves}

-- a short form as its row holds it: three letters, or two and a blank
unfoldable pub key_row : List ℕ → List ℕ
key_row n = take 3 (map fold n ++ (32 ∷ []))

-- what the rows of a table are compared with
unfoldable pub key : Names → List ℕ → List ℕ
key Weekdays s = fold (get_or s 0 0) ∷ fold (get_or s 1 0) ∷ fold (get_or s 2 0) ∷ []
key Months s = fold (get_or s 0 0) ∷ fold (get_or s 1 0) ∷ fold (get_or s 2 0) ∷ []
key Halves s = fold (get_or s 0 0) ∷ fold (get_or s 1 0) ∷ 32 ∷ []

-- a letter is not the 0 that stands for the text's end
unfoldable is_letter : ℕ → Bool
is_letter a = not (eqb (fold a) 0)

-- three letters, or two where the key has two
unfoldable is_key : Names → List ℕ → Bool
is_key t [] = false
is_key t (a ∷ []) = false
is_key Weekdays (a ∷ b ∷ []) = false
is_key Months (a ∷ b ∷ []) = false
is_key Halves (a ∷ b ∷ []) = is_letter a && is_letter b
is_key Weekdays (a ∷ b ∷ c ∷ []) = is_letter a && (is_letter b && is_letter c)
is_key Months (a ∷ b ∷ c ∷ []) = is_letter a && (is_letter b && is_letter c)
is_key Halves (a ∷ b ∷ c ∷ []) = false
is_key t (a ∷ b ∷ c ∷ d ∷ n) = false

no_letter : (a : ℕ) → is_letter a ≡ true → eqb (fold a) 0 ≡ false
unfolding is_letter
no_letter a h = not-true (eqb (fold a) 0) h

one : (t : Bool) {x y : Bool} → x ≡ y → cond t x false ≡ t && y
one true e = e
one false e = refl

alone : (t : Bool) → cond t true false ≡ t
alone true = refl
alone false = refl

last : (c : ℕ) (r : List ℕ) → is_letter c ≡ true → goes_on (c ∷ []) r ≡ eqb (fold c) (fold (get_or r 0 0))
unfolding goes_on fold
last c [] p = sym (no_letter c p)
last c (z ∷ r) p = alone (eqb (fold c) (fold z))

-- two letters, then what stands after them
two_letters : (a b : ℕ) (n s : List ℕ) (c : Bool) → is_letter a ≡ true → is_letter b ≡ true
    → ((x y : ℕ) (r : List ℕ) → s ≡ x ∷ y ∷ r → goes_on n r ≡ c)
    → goes_on (a ∷ b ∷ n) s ≡ eqb (fold a) (fold (get_or s 0 0)) && (eqb (fold b) (fold (get_or s 1 0)) && c)
unfolding goes_on fold
two_letters a b n [] c p q h = rw (no_letter a p) refl
two_letters a b n (x ∷ []) c p q h = rw (no_letter b q) (one (eqb (fold a) (fold x)) refl)
two_letters a b n (x ∷ y ∷ r) c p q h =
    one (eqb (fold a) (fold x)) (one (eqb (fold b) (fold y)) (h x y r refl))

third : (c : ℕ) (s : List ℕ) → is_letter c ≡ true → (x y : ℕ) (r : List ℕ) → s ≡ x ∷ y ∷ r
    → goes_on (c ∷ []) r ≡ eqb (fold c) (fold (get_or s 2 0))
third c s p x y r e = rw e (last c r p)

three_letters : (a b c : ℕ) (s : List ℕ) → is_letter a && (is_letter b && is_letter c) ≡ true
    → same (key_row (a ∷ b ∷ c ∷ [])) (fold (get_or s 0 0) ∷ fold (get_or s 1 0) ∷ fold (get_or s 2 0) ∷ []) ≡ goes_on (a ∷ b ∷ c ∷ []) s
unfolding same key_row
three_letters a b c s e =
    let p = (and-eq-true_iff (is_letter a) (is_letter b && is_letter c)).0 e in
    let q = (and-eq-true_iff (is_letter b) (is_letter c)).0 p.1 in
    sym (two_letters a b (c ∷ []) s _ p.0 q.0 (third c s q.1))

-- a row has the key of a text exactly if the text goes on with what the row holds
key_goes : (t : Names) (n s : List ℕ) → is_key t n ≡ true → same (key_row n) (key t s) ≡ goes_on n s
unfolding is_key key same key_row goes_on
key_goes t [] s e = absurd (false≢true e)
key_goes t (a ∷ []) s e = absurd (false≢true e)
key_goes Weekdays (a ∷ b ∷ []) s e = absurd (false≢true e)
key_goes Months (a ∷ b ∷ []) s e = absurd (false≢true e)
key_goes Halves (a ∷ b ∷ []) s e =
    let p = (and-eq-true_iff (is_letter a) (is_letter b)).0 e in
    sym (two_letters a b [] s true p.0 p.1 (λ x y r q. refl))
key_goes Weekdays (a ∷ b ∷ c ∷ []) s e = three_letters a b c s e
key_goes Months (a ∷ b ∷ c ∷ []) s e = three_letters a b c s e
key_goes Halves (a ∷ b ∷ c ∷ []) s e = absurd (false≢true e)
key_goes t (a ∷ b ∷ c ∷ d ∷ n) s e = absurd (false≢true e)

places : (t : Names) (ns : List (List ℕ)) (s : List ℕ) → every (is_key t) ns ≡ true
    → place_of (map key_row ns) (key t s) ≡ place_in ns s
unfolding every place_of place_in
places t [] s e = refl
places t (n ∷ ns) s e =
    let p = (and-eq-true_iff (is_key t n) (every (is_key t) ns)).0 e in
    rw (key_goes t n s p.0, places t ns s p.1) refl

-- the short forms of each table are such
keys : (t : Names) → every (is_key t) (map short (names_of t)) ≡ true
unfolding every is_key is_letter fold computes
keys Weekdays = refl
keys Months = refl
keys Halves = refl

short_placed : (t : Names) (s : List ℕ) {rows : List (List ℕ)} → rows ≡ map key_row (map short (names_of t))
    → place_of rows (key t s) ≡ short_place t s
unfolding short_place
short_placed t s e = rw e (places t (map short (names_of t)) s (keys t))

-- ---- the search

-- a row has three bytes
abbrev pub has_three : List ℕ → Bool
has_three r = eqb (length r) 3

and_true : (t : Bool) → t && true ≡ t
and_true true = refl
and_true false = refl

same_row : (r : List ℕ) (a b c : ℕ) → has_three r ≡ true → pointwise nat_eq r (a ∷ b ∷ c ∷ []) ≡ same r (a ∷ b ∷ c ∷ [])
unfolding same
same_row [] a b c h = absurd (omega (arith, eqb-true 0 3 h))
same_row (x ∷ []) a b c h = absurd (omega (arith, eqb-true (length (x ∷ [])) 3 h))
same_row (x ∷ y ∷ []) a b c h = absurd (omega (arith, eqb-true (length (x ∷ y ∷ [])) 3 h))
same_row (x ∷ y ∷ z ∷ []) a b c h = rw (and_true (eqb z c)) refl
same_row (x ∷ y ∷ z ∷ w ∷ r) a b c h = absurd (omega (arith, eqb-true (length (x ∷ y ∷ z ∷ w ∷ r)) 3 h))

first_row : (rs : List (List ℕ)) (a b c : ℕ) → every has_three rs ≡ true
    → position_or_len (λ r. pointwise nat_eq r (a ∷ b ∷ c ∷ [])) rs ≡ place_of rs (a ∷ b ∷ c ∷ [])
unfolding every place_of
first_row [] a b c h = refl
first_row (r ∷ rs) a b c h =
    let p = (and-eq-true_iff (has_three r) (every has_three rs)).0 h in
    rw (same_row r a b c p.0, first_row rs a b c p.1) (turned (same r (a ∷ b ∷ c ∷ [])) _)
  where
    turned : (t : Bool) (n : ℕ) → cond (not t) (1 + n) 0 ≡ cond t 0 (suc n)
    turned true n = refl
    turned false n = omega arith

place_most : (ns : List (List ℕ)) (s : List ℕ) → place_in ns s ≤ length ns
unfolding place_in
place_most [] s = omega arith
place_most (n ∷ ns) s = picked (λ k. k ≤ suc (length ns)) (goes_on n s) (omega arith) (omega (arith, place_most ns s))

-- the first row with the key of a text stands at the place of the short form that the text goes on with
pub placed_at : (t : Names) (s : List ℕ) (a b c : ℕ) {rows : List (List ℕ)} {r : Option ℕ}
    → r ≡ position (λ x. pointwise nat_eq x (a ∷ b ∷ c ∷ [])) rows
    → rows ≡ map key_row (map short (names_of t)) → every has_three rows ≡ true → a ∷ b ∷ c ∷ [] ≡ key t s
    → MatchOption r (short_place t s ≡ length (names_of t)) (λ i. (short_place t s ≡ i) × (i < length (names_of t)))
unfolding short_place
placed_at t s a b c {rows} {r} p e h k =
    let q : position_or_len (λ x. pointwise nat_eq x (a ∷ b ∷ c ∷ [])) rows ≡ short_place t s =
    first_row rows a b c h ∙ rw k (short_placed t s e) in
    let l : length rows ≡ length (names_of t) = rw (e, length-map, length-map) refl in
    go (dec_lt (short_place t s) (length (names_of t))) (rw (q, l) at p)
    (rw length-map at (place_most (map short (names_of t)) s))
  where
    go : Dec (short_place t s < length (names_of t))
        → r ≡ cond (ltb (short_place t s) (length (names_of t))) (Some (short_place t s)) None
        → short_place t s ≤ length (names_of t)
        → MatchOption r (short_place t s ≡ length (names_of t)) (λ i. (short_place t s ≡ i) × (i < length (names_of t)))
    go (yes h) p m = rw (p, lt-ltb (short_place t s) (length (names_of t)) h) (refl, h)
    go (no h) p m = rw (p, le-ltb (short_place t s) (length (names_of t)) (omega arith)) (omega arith)
