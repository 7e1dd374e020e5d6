-- What is put into a part of a buffer is put into the whole from the part's start on: a number, a name, and its first bytes.
-- Assumes nothing.
use Prim.Native.Nat.{ℕ, zero, suc, ◌+◌, ◌-◌, ◌≤◌}
use mathlib.Core.List.{List, [], ◌∷◌, ◌++◌, map}
use mathlib.Core.Path.{◌≡◌, refl, sym, ap, ◌∙◌}
use native.Mathlib.Omega.{arith}
use lib.ListN.{length, take, drop, replicate, length-take, length-drop, length-replicate}
use lib.Seq.{sets, take_all, length-sets}
use Rattle.laws.specs.Stores.{Puts}
use Rattle.laws.proofs.Stores.{sets_all, sets_part, then}
use Rattle.names.specs.Case.{fold, capital, cased}
use Rattle.text.specs.Digits.{plain, filled}
use Rattle.text.specs.Fill.{fill}
use Rattle.names.specs.declared.names.Case.{Case}
use Rattle.names.specs.declared.names.Case.TheVariants.{AsIs, Small, Capital}
use Rattle.names.proofs.Cased.{cased_length}
use Rattle.text.proofs.Fill.{fill_length, plain_places}
use Rattle.text.proofs.ReadBack.{filled_length}
use Rattle.conversions.specs.declared.following.Style.{Style}
use Rattle.converted.specs.Converted.{fill_by, places_by, number, case_by, name}

-- the first letters of a name in a case are its first letters in that case
take_map : (f : ℕ → ℕ) (n : ℕ) (s : List ℕ) → take n (map f s) ≡ map f (take n s)
take_map f zero s = refl
take_map f (suc n) [] = refl
take_map f (suc n) (a ∷ s) = ap (λ (x : List ℕ). f a ∷ x) (take_map f n s)

take_cased : (k : Case) (n : ℕ) (s : List ℕ) → take n (cased k s) ≡ cased k (take n s)
unfolding cased
take_cased AsIs n s = refl
take_cased Small n s = take_map fold n s
take_cased Capital n s = take_map capital n s

-- a buffer whose k bytes from `at` on are now y
abbrev changed : List ℕ → ℕ → ℕ → List ℕ → List ℕ
changed b at k y = take at b ++ (y ++ drop k (drop at b))

module _ (b : List ℕ) (at : ℕ) where
  part_length : (k : ℕ) → at + k ≤ length b → length (take k (drop at b)) ≡ k
  part_length k h = simp (length-take, length-drop) (omega arith)

  -- a text that is as long as the part
  puts-all : {end : ℕ} {y : List ℕ} (x : List ℕ) → end ≡ at + length x → at + length x ≤ length b → y ≡ x
      → Puts x b at (changed b at (end - at) y) end
  puts-all {end} {y} x e h q =
      let k : end - at ≡ length x = omega arith in
      let part = take (length x) (drop at b) in
      let z : y ≡ sets part 0 x = q ∙ sym (sets_all part x (sym (part_length (length x) h))) in
      record { ends = e; stores = rw (k, z) (sets_part b at (length x) x ∙ ap (sets b at) (take_all (length x) x (omega arith))) }

  -- a number, and a fill
  module _ {end : ℕ} (f k : ℕ) (e : end ≡ at + k) (h : at + k ≤ length b) where
    part-length : length (take (end - at) (drop at b)) ≡ k
    part-length = let n : end - at ≡ k = omega arith in rw n (part_length k h)

    pub puts_number : {y : List ℕ} (v : ℕ) → y ≡ filled f (length (take (end - at) (drop at b))) v
        → Puts (filled f k v) b at (changed b at (end - at) y) end
    puts_number v q =
        let l = filled_length f k v in
        puts-all (filled f k v) (rw l e) (rw l h) (rw part-length at q)

    pub puts_fill : {y : List ℕ} → y ≡ replicate (length (take (end - at) (drop at b))) f
        → Puts (replicate k f) b at (changed b at (end - at) y) end
    puts_fill q =
        let l = length-replicate k f in
        puts-all (replicate k f) (rw l e) (rw l h) (rw part-length at q)

  -- the first letters of a name
  pub puts_name : {end n : ℕ} {y : List ℕ} (c : Case) (s : List ℕ) → n ≤ length s → end ≡ at + n
      → y ≡ sets (take (end - at) (drop at b)) 0 (cased c s) → Puts (cased c (take n s)) b at (changed b at (end - at) y) end
  puts_name {end} {n} c s h e q =
      let k : end - at ≡ n = omega arith in
      record {
        ends = rw (cased_length, length-take) (omega arith);
        stores = rw (q, k, ← take_cased) (sets_part b at n (cased c s));
      }

-- ---- the fill, and what it fills

-- a text s is put after its fill
module _ (f w : ℕ) (s before : List ℕ) (at : ℕ) (room : at + length (fill f w s) ≤ length before) {n : ℕ} (l : n ≡ length s) where
  pub fill_room : at + (w - n) ≤ length before
  fill_room = omega (arith, fill_length f w s)

  module _ {between : List ℕ} {middle : ℕ} (p : Puts (replicate (w - n) f) before at between middle) where
    pub text_room : middle + length s ≤ length between
    text_room =
        let kept = ap length p.stores ∙ length-sets before at (replicate (w - n) f) in
        omega (arith, fill_length f w s, p.ends, length-replicate (w - n) f, kept)

    pub puts_filled : {after : List ℕ} {end : ℕ} → Puts s between middle after end → Puts (fill f w s) before at after end
    unfolding fill
    puts_filled q = rw (← l) (then p q)

-- a number: its digits
module _ (y : Style) (own w v : ℕ) (before : List ℕ) (at : ℕ) (room : at + length (number y own w v) ≤ length before)
    {n f places : ℕ} (l : n ≡ length (plain v)) (g : f ≡ fill_by y.flag own) (q : places ≡ places_by y w) where
  filled-room : at + length (fill f places (plain v)) ≤ length before
  unfolding number
  filled-room = rw (g, q) room

  pub number_fill_room : at + (places - n) ≤ length before
  number_fill_room = fill_room f places (plain v) before at filled-room l

  module _ {between : List ℕ} {middle : ℕ} (p : Puts (replicate (places - n) f) before at between middle) where
    pub number_room : middle + n ≤ length between
    number_room = rw l (text_room f places (plain v) before at filled-room l p)

    pub puts_styled_number : {after : List ℕ} {end : ℕ} → Puts (filled 48 n v) between middle after end
        → Puts (number y own w v) before at after end
    unfolding number
    puts_styled_number z = rw (← g, ← q) (puts_filled f places (plain v) before at filled-room l p (rw (l, plain_places) at z))

-- a name
module _ (y : Style) (k : Case) (s before : List ℕ) (at : ℕ) (room : at + length (name y k s) ≤ length before) {n : ℕ}
    (l : n ≡ length s) where
  abbrev letters : List ℕ
  letters = cased (case_by y.flag k) s

  same : n ≡ length letters
  same = l ∙ sym (cased_length (case_by y.flag k) s)

  cased-room : at + length (fill 32 y.width letters) ≤ length before
  unfolding name
  cased-room = room

  pub name_fill_room : at + (y.width - n) ≤ length before
  name_fill_room = fill_room 32 y.width letters before at cased-room same

  module _ {between : List ℕ} {middle : ℕ} (p : Puts (replicate (y.width - n) 32) before at between middle) where
    pub name_room : middle + length s ≤ length between
    name_room = rw (cased_length (case_by y.flag k) s) at (text_room 32 y.width letters before at cased-room same p)

    pub puts_styled_name : {j : Case} {after : List ℕ} {end : ℕ} → j ≡ case_by y.flag k → Puts (cased j s) between middle after end
        → Puts (name y k s) before at after end
    unfolding name
    puts_styled_name e z = puts_filled 32 y.width letters before at cased-room same p (rw e at z)
