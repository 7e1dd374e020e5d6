-- Filling, once over width and fill; and numbers with no zeros before them: how many digits they have, and that digits over a width
-- are such a number, filled.
-- Assumes nothing.
use Prim.Native.Nat.{ℕ, zero, suc, ◌+◌, ◌-◌, ◌*◌, ◌/◌, ◌%◌, ◌^◌, ◌≤◌, ◌<◌, max}
use mathlib.Core.Path.{◌≡◌, refl, sym, ap, ◌∙◌}
use mathlib.Core.List.{List, [], ◌∷◌, ◌++◌, append_assoc, append-nil}
use native.Mathlib.Decide.{dec_lt}
use native.Mathlib.Nat.{div-one, div-div-eq-div-mul, pow-suc, pow-succ', pow-le-pow_right}
use native.Mathlib.Numerals.{add-one}
use native.Mathlib.Omega.{arith}
use borrow.Author.Tests.{ne_eqb, lt-ltb, le-ltb}
use lib.Arith.{mod-mul, digits_div, digits_mod}
use lib.Dec.{lit<}
use lib.ListN.{length, replicate, length-append, length-replicate, replicate-append-replicate}
use Rattle.text.specs.Digits.{digit, leading, filled, digits, plain}
use Rattle.text.specs.Fill.{fill}
use Rattle.text.proofs.ReadBack.{filled_length, filled_last}

-- ---- any text

pub fill_length : (f w : ℕ) (s : List ℕ) → length (fill f w s) ≡ max w (length s)
unfolding fill
fill_length f w s = simp (length-append, length-replicate) (omega arith)

-- a width below the text's own changes nothing
pub fill_below : (f w : ℕ) (s : List ℕ) → w ≤ length s → fill f w s ≡ s
unfolding fill
fill_below f w s h = let z : w - length s ≡ 0 = omega arith in rw z

-- one place more for one byte more at the end
fill_last : (f w : ℕ) (s : List ℕ) (b : ℕ) → fill f (suc w) (s ++ (b ∷ [])) ≡ fill f w s ++ (b ∷ [])
unfolding fill
fill_last f w s b =
    let z : suc w - length (s ++ (b ∷ [])) ≡ w - length s = rw length-append (omega arith) in
    rw (z, append_assoc)

-- ---- a number with no zeros before it: its last digit, after the digits of its tenth where it has one

split : {P : Type 0} (n : ℕ) → (n < 10 → P) → (10 ≤ n → P) → P
split {P} n p q = go (dec_lt n 10)
  where
    go : Dec (n < 10) → P
    go (yes h) = p h
    go (no h) = q (omega arith)

digits_one : (most n : ℕ) → n < 10 → digits (suc most) n ≡ digit (n % 10) ∷ []
unfolding digits
digits_one most n h = rw (lt-ltb n 10 h)

digits_more : (most n : ℕ) → 10 ≤ n → digits (suc most) n ≡ digits most (n / 10) ++ (digit (n % 10) ∷ [])
unfolding digits
digits_more most n h = rw (le-ltb n 10 h)

-- the bound may be any that is above the number
any_bound : (a b n : ℕ) → n < a → n < b → digits a n ≡ digits b n
any_bound zero b n h l = absurd (omega arith)
any_bound (suc a) zero n h l = absurd (omega arith)
any_bound (suc a) (suc b) n h l =
    split n (λ q. digits_one a n q ∙ sym (digits_one b n q))
    (λ q. rw (digits_more a n q, digits_more b n q, any_bound a b (n / 10) (omega arith) (omega arith)))

plain_one : (n : ℕ) → n < 10 → plain n ≡ digit (n % 10) ∷ []
unfolding plain
plain_one n h = digits_one n n h

plain_more : (n : ℕ) → 10 ≤ n → plain n ≡ plain (n / 10) ++ (digit (n % 10) ∷ [])
unfolding plain
plain_more n h = rw (digits_more n n h, any_bound n (suc (n / 10)) (n / 10) (omega arith) (omega arith))

-- so many digits
pub length_one : (n : ℕ) → n < 10 → length (plain n) ≡ 1
length_one n h = rw (plain_one n h)

pub length_more : (n : ℕ) → 10 ≤ n → length (plain n) ≡ length (plain (n / 10)) + 1
length_more n h = rw (plain_more n h, length-append)

pub plain_some : (n : ℕ) → 1 ≤ length (plain n)
plain_some n = split n (λ h. omega (arith, length_one n h)) (λ h. omega (arith, length_more n h))

-- ---- digits over a width

-- before a number of one digit all places are filled
leading_none : (f w : ℕ) → leading f w 0 ≡ replicate w f
unfolding leading
leading_none f zero = refl
leading_none f (suc w) = rw (leading_none f w, replicate-append-replicate w 1 f, add-one w)

filled_one : (f w n : ℕ) → n < 10 → filled f (suc w) n ≡ fill f (suc w) (plain n)
unfolding filled fill
filled_one f w n h =
    let z : n / 10 ≡ 0 = omega arith in
    let q : suc w - 1 ≡ w = omega arith in
    rw (z, leading_none f w, plain_one n h, q)

filled_more : (f w n : ℕ) → 10 ≤ n → filled f (suc (suc w)) n ≡ filled f (suc w) (n / 10) ++ (digit (n % 10) ∷ [])
unfolding filled leading
filled_more f w n h = rw (ne_eqb (n / 10) 0 (λ z. omega arith))

-- digits over a width that has room for them are the number, filled
pub filled_is_fill : (f w n : ℕ) → 1 ≤ w → n < 10 ^ w → filled f w n ≡ fill f w (plain n)
filled_is_fill f zero n h l = absurd (omega arith)
filled_is_fill f (suc zero) n h l = filled_one f 0 n (omega arith)
filled_is_fill f (suc (suc w)) n h l =
    split n (filled_one f (suc w) n)
    (λ q.
    rw
    (filled_more f w n q, filled_is_fill f (suc w) (n / 10) (omega arith) (omega arith), plain_more n q, fill_last f (suc w)))

pub plain_most : (w n : ℕ) → 1 ≤ w → n < 10 ^ w → length (plain n) ≤ w
plain_most w n h l =
    omega (arith, filled_length 48 w n, ap length (filled_is_fill 48 w n h l), fill_length 48 w (plain n))

-- as many places as it has digits have room for a number
plain_room : (most n : ℕ) → n < most → n < 10 ^ length (plain n)
plain_room zero n h = absurd (omega arith)
plain_room (suc most) n h =
    split n (λ q. rw (length_one n q) (omega arith))
    (λ q. rw (length_more n q, add-one) (omega (arith, plain_room most (n / 10) (omega arith))))

-- and digits over them are the number
pub plain_places : (f n : ℕ) → filled f (length (plain n)) n ≡ plain n
plain_places f n =
    filled_is_fill f (length (plain n)) n (plain_some n) (plain_room (suc n) n (omega arith))
    ∙ fill_below f (length (plain n)) (plain n) (omega arith)

-- a number with more than k digits: those before the last k, and these on k places
pub plain_parts : (k n : ℕ) → 10 ^ k ≤ n → plain n ≡ plain (n / 10 ^ k) ++ filled 48 k (n % 10 ^ k)
unfolding filled
plain_parts zero n h = rw (div-one n, append-nil)
plain_parts (suc k) n h =
    let e : n % 10 ^ suc k ≡ n / 10 % 10 ^ k * 10 + n % 10 = rw (pow-suc 10 k) (mod-mul n (pow_pos k) (lit< tt)) in
    let q : n / 10 ^ suc k ≡ n / 10 / 10 ^ k = rw (pow-succ' 10 k) (sym (div-div-eq-div-mul n 10 (10 ^ k))) in
    let l : 10 ^ k ≤ n / 10 = omega (arith, pow-suc 10 k) in
    let r : n % 10 < 10 = omega arith in
    rw (
      plain_more n (omega (arith, pow-suc 10 k, pow_pos k)),
      plain_parts k (n / 10) l,
      q,
      filled_last k (n % 10 ^ suc k),
      e,
      digits_div (n / 10 % 10 ^ k) r,
      digits_mod (n / 10 % 10 ^ k) r,
      append_assoc,
    )
  where
    pow_pos : (k : ℕ) → 0 < 10 ^ k
    pow_pos k = omega (arith, pow-le-pow_right {n = 10} (lit< tt) {i = 0} {j = k} (omega arith))
