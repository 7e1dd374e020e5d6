-- Opening a format one element at a time: the loop's invariant, and what each turn makes of it.
-- Assumes nothing.
use Prim.Native.Nat.{ℕ, zero, suc, ◌+◌, ◌-◌, ◌≤◌, ◌<◌}
use mathlib.Core.List.{List, [], ◌∷◌}
use mathlib.Core.Path.{◌≡◌, refl, sym, ap, ◌∙◌}
use native.Mathlib.Nat.{add-zero}
use native.Mathlib.Numerals.{add-one}
use native.Mathlib.Omega.{arith}
use lib.Dec.{leb, leb→le}
use lib.ListN.{length, get_or, take, drop, set, length-set, length-append, drop_of_length-le}
use lib.Seq.{sets, drop-cons, drop-drop, length-sets}
use Rattle.laws.proofs.Cases.{clash}
use Rattle.laws.proofs.Stores.{sets_append}
use Rattle.conversions.specs.Conversions.{own_format, computes as rows-compute}
use Rattle.conversions.proofs.Pieces.{rest}
use Rattle.conversions.proofs.Rows.{own_passes}
use Rattle.laws.specs.Lists.{every}
use Rattle.format.specs.Opening.{Ended, Opening, conversion_at, piece_of, nothing, before, composed, acted, sign_at}
use Rattle.format.specs.Opening.{open_from, composite_to, open_to, closed, longest}
use Rattle.format.specs.Opening.Ended.{Whole, BadAt}
use Rattle.format.specs.Private.{CanOpen, answered}
use Rattle.conversions.specs.declared.following.Act.{Act}
use Rattle.conversions.specs.declared.following.Act.TheVariants.{Byte, Convert, Open, Refuse}
use Rattle.conversions.specs.declared.following.Piece.{Piece}
use Rattle.format.specs.declared.opening.Side.{Side}
use Rattle.conversions.specs.declared.following.Style.{Style}
use Rattle.format.proofs.Pieces.{Modest, Follows, follows, takes}
use Rattle.std.specs.Prelude.{Err, None, Ok, Option, Result, Some, ℕ}
use Rattle.format.specs.declared.opening.Unopened.TheVariants.{Bad}
use Rattle.format.specs.declared.opening.Unopened.{Unopened}

-- ---- one turn of the definition

module _ (side : Side) (inner : ℕ → ℕ → Opening) (g : Option ℕ) where
  -- the bytes of the element before are passed
  passed : (s : List ℕ) (k i : ℕ) → open_from side inner g i k s ≡ open_from side inner g (i + k) 0 (drop k s)
  unfolding open_from
  passed [] zero i = refl
  passed [] (suc k) i = refl
  passed (b ∷ s) zero i = rw (add-zero i)
  passed (b ∷ s) (suc k) i = let e : i + 1 + k ≡ i + suc k = omega arith in rw e at (passed s k (i + 1))

  module _ (s : List ℕ) (i : ℕ) where
    ended : length s ≤ i → open_from side inner g i 0 (drop i s) ≡ nothing Whole
    unfolding open_from
    ended h = rw (drop_of_length-le s h)

    turned : i < length s
        → let p = piece_of side (get_or s i 0) (drop (i + 1) s) in
        open_from side inner g i 0 (drop i s)
        ≡ acted inner (sign_at g i) (open_from side inner g (i + p.length) 0 (drop (i + p.length) s)) p.act
    unfolding open_from
    turned h =
        let p = piece_of side (get_or s i 0) (drop (i + 1) s) in
        let e : i + 1 + (p.length - 1) ≡ i + p.length = omega (arith, takes side (get_or s i 0) (drop (i + 1) s)) in
        let q = rw (drop-drop (p.length - 1) (i + 1) s, e) at (passed (drop (i + 1) s) (p.length - 1) (i + 1)) in
        rw (← q, drop-cons s i 0 h, add-one i)

-- a composite's own format is short
own_short : (c : ℕ) → length (own_format c) ≤ 14
own_short c = leb→le (length (own_format c)) 14 (own_passes (λ s. leb (length s) 14) c (unfold rows-compute every in tt) tt)

-- no composite is opened 0 deep
deepest : (side : Side) (depth sign c : ℕ) → depth ≡ 0 → composite_to side depth sign c ≡ nothing (BadAt sign)
unfolding composite_to
deepest side depth sign c e = rw e

-- otherwise its own format is opened one less deep
deeper : (side : Side) (depth sign c : ℕ) → (depth ≡ 0 → ⊥)
    → open_to side (depth - 1) (Some sign) (own_format c) ≡ composite_to side depth sign c
unfolding open_to composite_to
deeper side zero sign c h = absurd (h refl)
deeper side (suc d) sign c h = let e : suc d - 1 ≡ d = omega arith in rw e

-- ---- a composite before the rest, by how its own format ended

whole : (e : List ℕ) (d : Ended) (rest : Opening) → d ≡ Whole → composed (record { elements = e; ended = d }) rest ≡ before e rest
unfolding composed
whole e Whole rest q = refl
whole e (BadAt p) rest q = clash (cc)

broken : (e : List ℕ) (d : Ended) (rest : Opening) → (d ≡ Whole → ⊥)
    → composed (record { elements = e; ended = d }) rest ≡ record { elements = e; ended = d }
unfolding composed
broken e Whole rest q = absurd (q refl)
broken e (BadAt p) rest q = refl

no_longer : (e : List ℕ) (d : Ended) (rest : Opening) → length e ≤ length (composed (record { elements = e; ended = d }) rest).elements
unfolding composed before
no_longer e Whole rest = omega (arith, length-append e rest.elements)
no_longer e (BadAt p) rest = omega arith

-- what an answer says of how an opening ended
pub closed_done : (n k : ℕ) (d : Ended) → closed n d ≡ Ok k → (d ≡ Whole) × (k ≡ n)
unfolding closed
closed_done n k Whole q = (refl, (cc))
closed_done n k (BadAt p) q = clash (cc)

has_modest : (n k : ℕ) {c : ℕ} {y : Style} {a : Act} → a ≡ Convert c y → Follows n k a → Modest k y
has_modest n k e h = (rw e at h).2

-- ---- storing an opening

-- to store w from n on in xs comes to the same as to store t from m on in ys
pub record Same (xs : List ℕ) (n : ℕ) (w : Opening) (ys : List ℕ) (m : ℕ) (t : Opening) : Type 0 where
  pub counts : n + length w.elements ≡ m + length t.elements
  pub ends : w.ended ≡ t.ended
  pub contents : sets xs n w.elements ≡ sets ys m t.elements

-- to store t from m on in ys gives the answer r and leaves xs
abbrev pub Gives : Result ℕ Unopened → List ℕ → List ℕ → ℕ → Opening → Type 0
Gives r xs ys m t = (r ≡ answered m t) × (xs ≡ sets ys m t.elements)

module _ {xs : List ℕ} {n : ℕ} {ys : List ℕ} {m : ℕ} {t : Opening} where
  gives : {w : Opening} → Same xs n w ys m t → answered n w ≡ answered m t
  gives w = rw (w.counts, w.ends)

  stops : (d : Ended) → Same xs n (nothing d) ys m t → Gives (closed n d) xs ys m t
  unfolding nothing
  stops d w = (rw add-zero at (gives w), w.contents)

  stored_one : (e : ℕ) (rest : Opening) → Same xs n (before (e ∷ []) rest) ys m t → Same (set xs n e) (n + 1) rest ys m t
  unfolding before
  stored_one e rest w = record { counts = omega (arith, w.counts); ends = w.ends; contents = rw add-one w.contents }

  -- a composite that opens to o was stored: r was the answer, and zs is what the slice then holds
  module _ (o : Opening) {r : Result ℕ Unopened} {zs : List ℕ} (inside : Gives r zs xs n o) (rest : Opening)
      (w : Same xs n (composed o rest) ys m t) where
    inner-done : (k : ℕ) → r ≡ Ok k → Same zs k rest ys m t
    unfolding before
    inner-done k q =
        let e = o.elements in
        let d = closed_done (n + length e) k o.ended (sym inside.0 ∙ q) in
        let v : Same xs n (before e rest) ys m t = rw (whole e o.ended rest d.0) at w in
        record {
          counts = omega (arith, v.counts, d.1, length-append e rest.elements);
          ends = v.ends;
          contents = rw (inside.1, d.1) (sym (sets_append xs n e rest.elements) ∙ v.contents);
        }

    inner-bad : (o.ended ≡ Whole → ⊥) → Gives r zs ys m t
    inner-bad q =
        let v : Same xs n o ys m t = rw (broken o.elements o.ended rest q) at w in
        (inside.0 ∙ gives v, inside.1 ∙ v.contents)

-- ---- the loop

-- The invariant: n elements are counted, those that fit stand in xs, and the format s is read up to i. To store the rest of s from n on
-- in xs comes to the same as to store all of s from m on in ys.
pub record Going (side : Side) (depth : ℕ) (g : Option ℕ) (s : List ℕ) (i : ℕ) (xs : List ℕ) (n : ℕ) (ys : List ℕ) (m : ℕ) : Type 0 where
  pub kept : length xs ≡ length ys
  pub same : Same xs n (open_from side (composite_to side depth) g i 0 (drop i s)) ys m (open_to side depth g s)

pub begins : (side : Side) (depth : ℕ) (g : Option ℕ) (s ys : List ℕ) (m : ℕ) → Going side depth g s 0 ys m ys m
unfolding open_to
begins side depth g s ys m = record { kept = refl; same = record { counts = refl; ends = refl; contents = refl } }

-- the offset that a % counts as lies in a format that is not too long
pub sign_within : (g : Option ℕ) (i : ℕ) → i < longest → sign_at g 0 < longest → sign_at g i < longest
unfolding sign_at
sign_within None i h l = h
sign_within (Some p) i h l = l

module _ {side : Side} {depth : ℕ} {g : Option ℕ} {s : List ℕ} {i : ℕ} {xs : List ℕ} {n : ℕ} {ys : List ℕ} {m : ℕ}
    (going : Going side depth g s i xs n ys m) where
  pub finished : length s ≤ i → Gives (Ok n) xs ys m (open_to side depth g s)
  unfolding closed
  finished h = stops Whole (rw (ended side (composite_to side depth) g s i h) at going.same)

  -- what stands at i, as the code lends it
  module _ (h : i < length s) {p : Piece} (lent : p ≡ piece_of side (get_or s i 0) (take (length s - (i + 1)) (drop (i + 1) s))) where
    f : p ≡ piece_of side (get_or s i 0) (drop (i + 1) s)
    f = rw rest at lent

    pub passes : (1 ≤ p.length) × (p.length ≤ 6)
    passes = rw f (takes side (get_or s i 0) (drop (i + 1) s))

    -- a flag and a width can be put into an element
    pub modest : {c : ℕ} {y : Style} → p.act ≡ Convert c y → Modest p.length y
    modest {c} {y} q = has_modest (length (drop (i + 1) s)) p.length q (rw f (follows side (get_or s i 0) (drop (i + 1) s)))

    abbrev after : Opening
    after = open_from side (composite_to side depth) g (i + p.length) 0 (drop (i + p.length) s)

    turn : {a : Act} → p.act ≡ a → Same xs n (acted (composite_to side depth) (sign_at g i) after a) ys m (open_to side depth g s)
    turn q = rw (← q, f, ← turned side (composite_to side depth) g s i h) going.same

    pub stores_byte : {b : ℕ} {zs : List ℕ} → p.act ≡ Byte b → zs ≡ set xs n b → Going side depth g s (i + p.length) zs (n + 1) ys m
    unfolding acted
    stores_byte {b} q e = rw e (record { kept = length-set xs n b ∙ going.kept; same = stored_one b after (turn q) })

    -- a conversion whose % counts as sign
    module _ {sign : ℕ} (at : sign ≡ sign_at g i) where
      pub stores_conversion : {c : ℕ} {y : Style} {e : ℕ} {zs : List ℕ} → p.act ≡ Convert c y → e ≡ conversion_at sign y c → zs ≡ set xs n e
          → Going side depth g s (i + p.length) zs (n + 1) ys m
      unfolding acted
      stores_conversion {c} {y} {e} q k z =
          let v = conversion_at (sign_at g i) y c in
          rw (z, k, at) (record { kept = length-set xs n v ∙ going.kept; same = stored_one v after (turn q) })

      pub refuses : p.act ≡ Refuse → Gives (Err (Bad sign)) xs ys m (open_to side depth g s)
      unfolding acted closed
      refuses q = rw at (stops (BadAt (sign_at g i)) (turn q))

      -- a composite
      module _ {c : ℕ} (q : p.act ≡ Open c) where
        composite-turn : Same xs n (composed (composite_to side depth sign c) after) ys m (open_to side depth g s)
        unfolding acted
        composite-turn = rw at (turn q)

        pub too_deep : depth ≡ 0 → Gives (Err (Bad sign)) xs ys m (open_to side depth g s)
        unfolding composed nothing closed
        too_deep e =
            let w : Same xs n (nothing (BadAt sign)) ys m (open_to side depth g s) = rw (deepest side depth sign c e) at composite-turn in
            stops (BadAt sign) w

        -- its own format is opened one less deep
        module _ (d : depth ≡ 0 → ⊥) {own : List ℕ} (holds : own ≡ own_format c) where
          pub asks : CanOpen side depth g s m → CanOpen side (depth - 1) (Some sign) own n
          unfolding sign_at
          asks a =
              let o = composite_to side depth sign c in
              record {
                short = rw holds (omega (arith, own_short c));
                sign = rw at (sign_within g i (omega (arith, a.short)) a.sign);
                few = rw (holds, deeper side depth sign c d)
                    (omega (arith, a.few, composite-turn.counts, no_longer o.elements o.ended after));
              }

          module _ {r : Result ℕ Unopened} {zs : List ℕ} (opened : Gives r zs xs n (open_to side (depth - 1) (Some sign) own)) where
            inside : Gives r zs xs n (composite_to side depth sign c)
            inside = rw (holds, deeper side depth sign c d) at opened

            pub opens : {k : ℕ} → r ≡ Ok k → Going side depth g s (i + p.length) zs k ys m
            opens {k} e =
                let l = ap length inside.1 ∙ length-sets xs n (composite_to side depth sign c).elements in
                record { kept = l ∙ going.kept; same = inner-done (composite_to side depth sign c) inside after composite-turn k e }

            pub opens_bad : ((k : ℕ) → r ≡ Ok k → ⊥) → Gives r zs ys m (open_to side depth g s)
            unfolding closed
            opens_bad e =
                let o = composite_to side depth sign c in
                inner-bad o inside after composite-turn (λ z. e (n + length o.elements) (inside.0 ∙ rw z))
