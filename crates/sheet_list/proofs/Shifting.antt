-- Words moved up by one, to make room for another.
-- Assumes nothing.
use Prim.Native.Nat.{ℕ, zero, suc, ◌+◌, ◌-◌, ◌≤◌, ◌<◌}
use mathlib.Core.List.{List, [], ◌∷◌, ◌++◌, append_assoc}
use mathlib.Core.Path.{◌≡◌, sym, ap, ◌∙◌}
use native.Mathlib.Numerals.{add-one}
use native.Mathlib.Omega.{arith}
use lib.ListN.{length, get_or, take, drop, set, length-take, length-drop, length-append, length-set, take-append-drop}
use lib.Seq.{take-append-le, drop-append-le, drop_at, take-add, drop-drop, length-take-le, take-suc, set_at, take-take, take-nil}
use lib.Seq.{set-append_left}
use Rattle.std.specs.List.{copy_within}
use Rattle.sheet_list.specs.Adding.{over}
use Rattle.sheet_list.specs.Private.{put_at}

drop_take : (a c : ℕ) (l : List ℕ) → drop a (take c l) ≡ take (c - a) (drop a l)
drop_take zero c l = let e : c - 0 ≡ c = omega arith in rw e
drop_take (suc a) zero [] = let e : 0 - suc a ≡ 0 = omega arith in rw e
drop_take (suc a) zero (x ∷ l) = let e : 0 - suc a ≡ 0 = omega arith in rw e
drop_take (suc a) (suc c) [] = sym (take-nil (suc c - suc a))
drop_take (suc a) (suc c) (x ∷ l) = let e : suc c - suc a ≡ c - a = omega arith in rw e (drop_take a c l)

-- where the words of the front from a place on stand one higher, another is put at that place
pub done : (w : List ℕ) (c : ℕ) → c < length w → (now : List ℕ) (at x : ℕ) → at ≤ c
    → now ≡ take at w ++ (get_or w at 0 ∷ (take (c - at) (drop at w) ++ drop (suc c) w))
    → set now at x ≡ over (put_at at x (take c w)) w
unfolding over put_at
done w c h now at x l e =
    let a : set now at x ≡ take at w ++ (x ∷ (take (c - at) (drop at w) ++ drop (suc c) w))
    = ap (λ (n : List ℕ). set n at x) e ∙ set_at (take at w) _ _ x at (length-take-le at w (omega arith)) in
    let n : length (take at w ++ (x ∷ take (c - at) (drop at w))) ≡ suc c
    = simp (length-append, length-take, length-drop) (omega arith) in
    a ∙ rw (take-take at c w l, drop_take at c w, n) (sym (append_assoc (take at w) _ _))

-- and so `copy_within` moves them
pub put_is : (w : List ℕ) (at c x : ℕ) → at ≤ c → c < length w
    → set (copy_within w at c (at + 1)) at x ≡ over (put_at at x (take c w)) w
put_is w at c x l h =
    let e : at + 1 + (c - at) ≡ suc c = omega arith in
    done w c h _ at x l (rw (e, add-one, take-suc w at 0 (omega arith)) (simp append_assoc))

-- moved in two parts, the last one first
pub in_two : (w : List ℕ) (at from c : ℕ) → at ≤ from → from ≤ c → c < length w
    → copy_within (copy_within w from c (from + 1)) at from (at + 1) ≡ copy_within w at c (at + 1)
in_two w at from c l m h =
    let p : List ℕ = take (from + 1) w in
    let q : List ℕ = take (c - from) (drop from w) ++ drop (c + 1) w in
    let n : length p ≡ from + 1 = length-take-le (from + 1) w (omega arith) in
    let f : from + 1 + (c - from) ≡ c + 1 = omega arith in
    let g : at + 1 + (from - at) ≡ from + 1 = omega arith in
    let k : at + 1 + (c - at) ≡ c + 1 = omega arith in
    let v : copy_within w from c (from + 1) ≡ p ++ q = rw f (append_assoc p _ _) in
    let a : take (at + 1) (p ++ q) ≡ take (at + 1) w
    = take-append-le (at + 1) p q (omega (arith, n)) ∙ take-take (at + 1) (from + 1) w (omega arith) in
    let r : length (drop at p) ≡ from + 1 - at = length-drop at p ∙ ap (λ (i : ℕ). i - at) n in
    let b : take (from - at) (drop at (p ++ q)) ≡ take (from - at) (drop at w)
    = ap (take (from - at)) (drop-append-le at p q (omega (arith, n)))
    ∙ take-append-le (from - at) (drop at p) q (omega (arith, r))
    ∙ ap (take (from - at)) (drop_take at (from + 1) w)
    ∙ take-take (from - at) (from + 1 - at) (drop at w) (omega arith) in
    let d : drop (from + 1) (p ++ q) ≡ q = drop_at p q (from + 1) n in
    let i : c - at ≡ (from - at) + (c - from) = omega arith in
    let j : at + (from - at) ≡ from = omega arith in
    let t : take (c - at) (drop at w) ≡ take (from - at) (drop at w) ++ take (c - from) (drop from w)
    = rw (i, take-add (from - at) (c - from) (drop at w), drop-drop (from - at) at w, j) in
    rw (v, g, a, b, d, k, t) (simp append_assoc)

-- ---- the front of an array changed

-- at a place of the front
pub over_set : (w : List ℕ) (c at x : ℕ) → at < c → c ≤ length w → over (set (take c w) at x) w ≡ set w at x
unfolding over
over_set w c at x h l =
    let n = length-take-le c w l in
    let e : length (set (take c w) at x) ≡ c = length-set (take c w) at x ∙ n in
    rw e (sym (set-append_left (take c w) (drop c w) at x (omega arith)) ∙ ap (λ (r : List ℕ). set r at x) (take-append-drop c w))

pub put_length : (s : List ℕ) (at x : ℕ) → at ≤ length s → length (put_at at x s) ≡ suc (length s)
unfolding put_at
put_length s at x h = simp (length-append, length-take, length-drop) (omega arith)
