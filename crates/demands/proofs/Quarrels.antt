-- The kinds that a reading names for a 9 quarrel, and are those that trying each in order leaves: over the facts of the text and what the
-- writer would write.
-- Assumes nothing.
use Prim.Native.Nat.{ℕ, zero, suc, ◌<◌, ◌≤◌}
use mathlib.Core.List.{List, Memᴰ as Member}
use mathlib.Core.Bool.{true}
use mathlib.Core.Logic.{◌⊎◌, ◌↔◌, inl, inr}
use mathlib.Core.Path.{◌≡◌, refl, sym, ap, ◌∙◌}
use native.Mathlib.Omega.{arith}
use lib.ListN.{get_or}
use Rattle.format.specs.Opening.{opening}
use Rattle.format.specs.declared.opening.Side.TheVariants.{Reader}
use Rattle.agreement.specs.Agreement.{said}
use Rattle.agreement.specs.declared.Facts.{Facts}
use Rattle.judge.specs.declared.Engine.{Engine}
use Rattle.matching.specs.Extents.{nowhere, first_said}
use Rattle.matching.specs.declared.extents.Extent.{Extent}
use lib.Dec.{lit≤}
use Rattle.kinds.specs.Kinds.{zone_offset}
use Rattle.reasons.specs.Quarrels.{kinds_of, none_agrees, quarrelling}
use Rattle.reasons.specs.Reasons.{facts_in, quarrel_words, explained_by}
use Rattle.reasons.specs.Private.{last_kind}
use Rattle.reasons.specs.declared.About.{About}
use Rattle.reasons.specs.declared.About.TheVariants.{Day, Hour}
use Rattle.reasons.proofs.Minimal.{Candidate, value_of, AgreesAround, without_other, minimal}
use Rattle.reasons.proofs.Named.{Left, left_word, named_left}
use Rattle.reasons.proofs.Ranges.{these_member, member_these}
use Rattle.strftime.specs.declared.Fields.{Fields}
use Rattle.demands.specs.Facts.{Says, facts, Matched}
use Rattle.demands.specs.Reasons.{Named, Quarrels}
use Rattle.demands.specs.Writes.{WouldWrite}
use Rattle.demands.proofs.FirstSaid.{Stands, stands}
use Rattle.demands.proofs.Matched.{handed}

-- a number that is not 0 is one more than some number
one_more : (x : ℕ) → (x ≡ 0 → ⊥) → (n : ℕ) × (x ≡ suc n)
one_more zero d = absurd (d refl)
one_more (suc n) d = (n, refl)

-- kinds that bear on either are at most 15
last_most : (a : About) → last_kind a ≤ 15
unfolding last_kind
last_most Day = lit≤ tt
last_most Hour = lit≤ tt

-- a: the day or the hour; fields: of a candidate; would: what the writer would write for it; none: no candidate agrees
module _ (a : About) (e : Engine) (f s : List ℕ) (m : Matched f s) (fields : ℕ → Fields)
    (would : (d : ℕ) → Candidate a d → (k n : ℕ) → Member k (kinds_of a) → WouldWrite k n (fields d) ↔ (value_of a d k ≡ n))
    (none : none_agrees a (facts_in (opening Reader f).elements s) ≡ true)
    (worded : (explained_by e f s).words ≡ quarrel_words a (opening Reader f).elements s)
  where
    abbrev es : List ℕ
    es = (opening Reader f).elements

    abbrev kept : Facts
    kept = facts_in es s

    abbrev left : Facts
    left = quarrelling a kept

    -- what is kept is what the text says
    kept-says : (k n : ℕ) → said kept k ≡ suc n → Says (facts f s) k n
    unfolding facts_in
    kept-says k n x = (handed f s m k n).0 x

    says-kept : (k n : ℕ) → Says (facts f s) k n → said kept k ≡ suc n
    unfolding facts_in
    says-kept k n x = (handed f s m k n).1 x

    -- a kind that is left bears on the day or the hour, and so is no zone offset
    not-zone : (k : ℕ) → Left a es s k → k ≡ zone_offset → ⊥
    not-zone k l z = omega (arith, z, l.1, last_most a)

    -- a kind that is left is named, and the other way round
    left-stands : (k : ℕ) (l : Left a es s k) → Stands k s (not-zone k l) (facts f s) (first_said k es s 0)
    unfolding facts
    left-stands k l =
        let x = one_more (said left k) l.2 in
        stands k s (not-zone k l) es 0 (omega arith) x.0 (kept-says k x.0 ((minimal a kept none).fewer k x.0 x.1))

    left-named : (k : ℕ) → Left a es s k → Named e f s k
    unfolding nowhere
    left-named k l z =
        let x = left-stands k l in
        let i : first_said k es s 0 ≡ nowhere =
        sym (left_word a es s k l) ∙ sym (ap (λ (w : List Extent). get_or w k nowhere) worded) ∙ z in
        omega (arith, x.spelled.some, ap (λ (y : Extent). y.next) (sym x.at ∙ i))

    is-left : (k : ℕ) → Named e f s k → Left a es s k
    is-left k d = named_left a es s k (λ z. d (ap (λ (w : List Extent). get_or w k nowhere) worded ∙ z))

    -- what is left of a kind is what the text says of it
    left-says : (k n : ℕ) → said left k ≡ suc n → Says (facts f s) k n
    left-says k n x = kept-says k n ((minimal a kept none).fewer k n x)

    says-left : (k n : ℕ) → Left a es s k → Says (facts f s) k n → said left k ≡ suc n
    says-left k n l x =
        let y = one_more (said left k) l.2 in
        let z = (minimal a kept none).fewer k y.0 y.1 in
        y.1 ∙ sym z ∙ says-kept k n x

    member-left : (k n : ℕ) → Member k (kinds_of a) → said left k ≡ suc n → Left a es s k
    member-left k n i x = let r = member_these a k i in (r.0, r.1, λ z. omega arith)

    -- without kind k
    needed-by : (k : ℕ) → Left a es s k
        → (d : ℕ) × Candidate a d × ((j n : ℕ) → Named e f s j → (j ≡ k → ⊥) → Says (facts f s) j n → WouldWrite j n (fields d))
    needed-by k l =
        let r = (minimal a kept none).each_needed k l.0 l.1 l.2 in (
          r.0,
          r.1,
          λ j n y away x.
              let i = is-left j y in
              let b = these_member a j i.0 i.1 in
              (would r.0 r.1 j n b).1 (r.2 j n b (without_other k left j away ∙ says-left j n i x)),
        )

    -- around kind k
    abbrev Around : ℕ → ℕ → Type 0
    Around k d =
        (j n : ℕ) → ((j < k) × Named e f s j) ⊎ ((k < j) × Member j (kinds_of a)) → Says (facts f s) j n → WouldWrite j n (fields d)

    around-to : (k d : ℕ) → Candidate a d → AgreesAround a kept k d → Around k d
    around-to k d i g j n (inl y) x =
        let l = is-left j y.1 in
        let b = these_member a j l.0 l.1 in
        (would d i j n b).1 (g j n b (inl (y.0, says-left j n l x)))
    around-to k d i g j n (inr y) x = (would d i j n y.1).1 (g j n y.1 (inr (y.0, says-kept j n x)))

    around-from : (k d : ℕ) → Candidate a d → Around k d → AgreesAround a kept k d
    around-from k d i g j n b (inl y) =
        (would d i j n b).0 (g j n (inl (y.0, left-named j (member-left j n b y.1))) (left-says j n y.1))
    around-from k d i g j n b (inr y) = (would d i j n b).0 (g j n (inr (y.0, b)) (kept-says j n y.1))

    pub quarrels : Quarrels e f s (kinds_of a) (Candidate a) fields
    quarrels =
        record {
          bears = λ k y. let l = is-left k y in these_member a k l.0 l.1;
          said = λ k y. let x = one_more (said left k) (is-left k y).2 in (x.0, left-says k x.0 x.1);
          together = λ d i g.
              (minimal a kept none).together d i
              (λ k n b x. (would d i k n b).0 (g k n (left-named k (member-left k n b x)) (left-says k n x)));
          needed = λ k y. needed-by k (is-left k y);
          in_order = λ k b.
              let h = member_these a k b in
              let o = (minimal a kept none).in_order k h.0 h.1 in (
                λ y. let r = o.0 (is-left k y).2 in (r.0, r.1, around-to k r.0 r.1 r.2),
                λ r. left-named k (h.0, h.1, o.1 (r.0, r.1, around-from k r.0 r.1 r.2)),
              );
          words = λ k y.
              let l = is-left k y in
              let x = left-stands k l in
              (x.fact, x.first, x.spelled, ap (λ (w : List Extent). get_or w k nowhere) worded ∙ left_word a es s k l ∙ x.at);
        }
