-- How long a block can be, over plain variables.
-- Assumes nothing.
use Prim.Native.Nat.{ℕ, zero, suc, ◌+◌, ◌*◌, ◌-◌, ◌≤◌, ◌<◌, min}
use mathlib.Core.Bool.{Bool, true, false, cond, ◌&&◌}
use mathlib.Core.List.{List, [], ◌∷◌, ◌++◌, map}
use mathlib.Core.Logic.{⊎_elim}
use mathlib.Core.Path.{◌≡◌, refl, sym}
use native.Mathlib.Decide.{dec_le}
use native.Mathlib.Nat.{eq-or-lt_of_le, lt_of_not-le}
use native.Mathlib.Numerals.{add-one}
use native.Mathlib.Omega.{arith}
use borrow.Author.Tests.{leb-true, le-leb, lt-leb, eq-eqb, ne_eqb}
use lib.Dec.{eqb, leb, ltb, lit≤}
use lib.ListN.{length, get_or, take, drop, length-append, length-map, length-take}
use Rattle.calendar.specs.declared.Date.{Date}
use Rattle.format.specs.Opening.{longest, most_elements}
use Rattle.conversions.specs.Conversions.{among}
use Rattle.judge.specs.declared.Engine.TheVariants.{Skipping}
use Rattle.kinds.specs.Kinds.{kinds}
use Rattle.laws.specs.Bytes.{bytes}
use Rattle.laws.specs.Lists.{range}
use Rattle.laws.proofs.Cases.{picked, clash}
use Rattle.laws.proofs.Table.{same_at}
use Rattle.lists.specs.Answers.{opened_reading, opened_elements}
use Rattle.lists.specs.Lines.{longest_input}
use Rattle.lists.specs.Putting.{each}
use Rattle.lists.proofs.Figures.{opened_numbers, opened_place, date_length}
use Rattle.matching.specs.Extents.{extent, nowhere}
use Rattle.matching.specs.declared.extents.Extent.{Extent}
use Rattle.reasons.specs.Reasons.{reason_of, explained, differing}
use Rattle.reasons.specs.declared.About.{About}
use Rattle.reasons.specs.declared.About.TheVariants.{Day as TheDay, Hour as TheHour}
use Rattle.reasons.specs.declared.Part.{Part}
use Rattle.reasons.specs.declared.Part.TheVariants.{Year, Month, Day}
use Rattle.reasons.proofs.Places.{words_below, unless_quarrel, elements_explained_below}
use Rattle.strptime.specs.Answers.{showing, refused, unless_long}
use Rattle.strptime.specs.declared.Reading.{Reading}
use Rattle.text.specs.Digits.{is_digit}
use Rattle.text.proofs.Fill.{plain_most}
use Rattle.refusals.specs.Blocks.{block, opened_block}
use Rattle.refusals.specs.Marks.{marked, mark_at, last_mark, marks_line}
use Rattle.refusals.specs.Over.{tally}
use Rattle.refusals.specs.Sentences.{bad_conversion, mismatch, noun, quarrel, part_name, open_day, missing_hour, open_hour}
use Rattle.refusals.specs.Sentences.{open_sentence, sentence}
use Rattle.refusals.specs.Shown.{shown}
use Rattle.refusals.specs.Words.{labels, label, words_at, label_before, phrase, begins, begins_from, words_from}
use Rattle.refusals.specs.Words.{separator, phrase_at, word_list}
use Rattle.refusals.proofs.Labels.{no_label}
use Rattle.refusals.proofs.Over.{tally_most, most_below}
use Rattle.std.specs.Prelude.{Err, Ok, Result, ℕ}
use Rattle.format.specs.declared.opening.Unopened.TheVariants.{Bad, TooLong}
use Rattle.format.specs.declared.opening.Unopened.{Unopened}

-- ---- the words that quarrel: each begins at one offset, and has at most 1,049 bytes

-- one or none
abbrev one : Bool → ℕ
one b = cond b 1 0

tally_one : (p : ℕ → Bool) (n : ℕ) → tally p (suc n) ≡ one (p n) + tally p n
unfolding tally
tally_one p n = go (p n)
  where
    go : (b : Bool) → cond b (suc (tally p n)) (tally p n) ≡ one b + tally p n
    go true = omega arith
    go false = omega arith

tally_parted : (p q r : ℕ → Bool) → ((k : ℕ) → one (p k) ≡ one (q k) + one (r k)) → (n : ℕ) → tally p n ≡ tally q n + tally r n
unfolding tally
tally_parted p q r e zero = refl
tally_parted p q r e (suc n) =
    omega (arith, e n, tally_parted p q r e n, tally_one p n, tally_one q n, tally_one r n)

-- words that begin from an offset on begin there or later
begins_parted : (x : Extent) (at : ℕ)
    → one (begins_from x at) ≡ one (eqb x.from at && ltb x.from x.next) + one (begins_from x (at + 1))
unfolding begins_from
begins_parted x at = go (dec_le at x.from)
  where
    go : Dec (at ≤ x.from)
        → one (leb at x.from && ltb x.from x.next)
        ≡ one (eqb x.from at && ltb x.from x.next) + one (leb (at + 1) x.from && ltb x.from x.next)
    go (yes h) =
        ⊎_elim
        (λ (q : at ≡ x.from).
        rw (le-leb at x.from h, eq-eqb x.from at (sym q), lt-leb (at + 1) x.from (omega arith)) (omega arith))
        (λ (l : at < x.from).
        rw (le-leb at x.from h, ne_eqb x.from at (λ e. omega arith), le-leb (at + 1) x.from (omega arith)) (omega arith))
        (eq-or-lt_of_le h)
    go (no h) =
        let l = lt_of_not-le h in
        rw (lt-leb at x.from l, ne_eqb x.from at (λ e. omega arith), lt-leb (at + 1) x.from (omega arith))

label_most : (k : ℕ) → length (label k) ≤ 20
label_most k = elim (dec_le 16 k) [
  | yes h ↦ rw (← no_label k h) (lit≤ tt)
  | no h ↦
      leb-true _ _ (same_at (λ j. leb (length (label j)) 20) (λ j. true) 16 0 computed k (omega arith) (omega (arith, lt_of_not-le h)))
]
  where
    computed : map (λ j. leb (length (label j)) 20) (range 0 16) ≡ map (λ j. true) (range 0 16)
    computed = unfold label labels bytes range in refl

before_most : (k : ℕ) (w : List ℕ) → length (label_before k w) ≤ 20
unfolding label_before
before_most k w = picked (λ (x : List ℕ). length x ≤ 20) (is_digit (get_or w 0 0)) (label_most k) (lit≤ tt)

phrase_most : (k : ℕ) (w : List ℕ) → length (phrase k w) ≤ 20 + length w
unfolding phrase shown
phrase_most k w = simp (length-append, length-map) (omega (arith, before_most k w))

separator_most : (n : ℕ) → length (separator n) ≤ 5
unfolding separator bytes
separator_most n =
    picked (λ (x : List ℕ). length x ≤ 5) (eqb n 0) (lit≤ tt) (picked (λ (x : List ℕ). length x ≤ 5) (eqb n 1) (lit≤ tt) (lit≤ tt))

module _ (xs : List Extent) (s : List ℕ) (h : (k : ℕ) → (get_or xs k nowhere).next ≤ longest) where
  said_most : (at k : ℕ) → length (phrase_at xs s at k) ≤ 1049 * one (begins xs at k)
  unfolding phrase_at
  said_most at k = go (begins xs at k)
    where
      x : Extent
      x = get_or xs k nowhere

      go : (b : Bool) → length (cond b (phrase k (words_at s x) ++ separator (words_from xs (at + 1))) []) ≤ 1049 * one b
      go true =
          omega (
            arith,
            h k,
            length-append (phrase k (words_at s x)) (separator (words_from xs (at + 1))),
            phrase_most k (words_at s x),
            length-take (x.next - x.from) (drop x.from s),
            separator_most (words_from xs (at + 1)),
          )
      go false = omega arith

  at_most : (at n : ℕ) → length (each (phrase_at xs s at) n) ≤ 1049 * tally (begins xs at) n
  unfolding each tally
  at_most at zero = omega arith
  at_most at (suc n) =
      omega (
        arith,
        length-append (each (phrase_at xs s at) n) (phrase_at xs s at n),
        at_most at n,
        said_most at n,
        tally_one (begins xs at) n,
      )

  parted : (at : ℕ) → words_from xs at ≡ tally (begins xs at) kinds + words_from xs (suc at)
  unfolding words_from begins
  parted at = rw (← add-one at) (tally_parted _ _ _ (λ k. begins_parted (get_or xs k nowhere) at) kinds)

  from-most : (n : ℕ) → length (each (λ at. each (phrase_at xs s at) kinds) n) + 1049 * words_from xs n ≤ 1049 * words_from xs 0
  unfolding each
  from-most zero = omega arith
  from-most (suc n) =
      omega (
        arith,
        length-append (each (λ at. each (phrase_at xs s at) kinds) n) (each (phrase_at xs s n) kinds),
        from-most n,
        at_most n kinds,
        parted n,
      )

  list-most : length (word_list xs s) ≤ 1049 * kinds
  unfolding word_list words_from
  list-most = omega (arith, from-most (length s), tally_most (λ k. begins_from (get_or xs k nowhere) 0) kinds)

-- ---- the sentence
noun_most : (a : About) → length (noun a) ≤ 4
unfolding noun bytes
noun_most TheDay = lit≤ tt
noun_most TheHour = lit≤ tt

part_most : (p : Part) → length (part_name p) ≤ 5
unfolding part_name bytes
part_most Year = lit≤ tt
part_most Month = lit≤ tt
part_most Day = lit≤ tt

day_most : (a b : Date) → length (open_day a b) ≤ 100
unfolding open_day bytes
day_most a b = simp length-append (omega (arith, date_length a, date_length b, part_most (differing a b)))

hour_most : (a b : ℕ) → a ≤ 23 → b ≤ 23 → length (open_hour a b) ≤ 100
unfolding open_hour missing_hour bytes
hour_most a b h i =
    simp length-append
    (omega (
      arith,
      plain_most 2 a (lit≤ tt) (omega arith),
      plain_most 2 b (lit≤ tt) (omega arith),
      picked (λ (x : List ℕ). length x ≤ 8) (eqb b (a + 12)) {a = bytes "AM or PM"} {b = bytes "the hour"} (lit≤ tt) (lit≤ tt),
    ))

open_most : (o : Result ℕ Unopened) (es s : List ℕ) → length (open_sentence (opened_reading o es s).shown) ≤ 100
unfolding open_sentence
open_most = opened_numbers (λ n x. length (open_sentence x) ≤ 100) (λ n h. lit≤ tt) day_most hour_most

-- a byte for each
each_one : (f : ℕ → ℕ) (n : ℕ) → length (each (λ i. f i ∷ []) n) ≡ n
unfolding each
each_one f zero = refl
each_one f (suc n) = omega (arith, length-append (each (λ i. f i ∷ []) n) (f n ∷ []), each_one f n)

-- of a reading with such a place, such words, and such a sentence where it is open
module _ (r : Reading) (words : List Extent) (s : List ℕ) (p : r.place ≤ most_elements)
    (w : (k : ℕ) → (get_or words k nowhere).next ≤ longest) (o : length (open_sentence r.shown) ≤ 100) where
  abbrev Brief : List ℕ → Type 0
  Brief x = length x ≤ 19951

  quarrel-most : (a : About) → Brief (quarrel a words s)
  unfolding quarrel bytes
  quarrel-most a = simp length-append (omega (arith, noun_most a, list-most words s w))

  conversion-most : Brief (bad_conversion r.place)
  unfolding bad_conversion bytes
  conversion-most = simp length-append (omega (arith, plain_most 4 r.place (lit≤ tt) (omega arith)))

  abbrev is : ℕ → Bool
  is n = eqb r.number n

  sentence-most : Brief (sentence r words s)
  unfolding sentence mismatch bytes
  sentence-most =
      picked Brief (is 1) (lit≤ tt)
      (picked Brief (is 3) conversion-most
      (picked Brief (is 5) (lit≤ tt)
      (picked Brief (is 6) (picked Brief (ltb r.place (length s)) (lit≤ tt) (lit≤ tt))
      (picked Brief (is 7) (lit≤ tt)
      (picked Brief (is 8) (lit≤ tt)
      (picked Brief (is 9) (quarrel-most _) (picked Brief (is 10) (omega (arith, o)) (lit≤ tt))))))))

  -- ---- the marks
  mark-most : (k : ℕ) → (get_or (marked r words) k nowhere).next ≤ 6657
  unfolding marked nowhere
  mark-most k =
      picked (λ (xs : List Extent). (get_or xs k nowhere).next ≤ 6657) (among r.number (6 ∷ 7 ∷ 8 ∷ [])) (place-most k)
      (omega (arith, w k))
    where
      place-most : (k : ℕ) → (get_or (extent r.place (r.place + 1) ∷ []) k nowhere).next ≤ 6657
      place-most zero = omega arith
      place-most (suc k) = lit≤ tt

  last_most : (xs : List Extent) → ((k : ℕ) → (get_or xs k nowhere).next ≤ 6657) → last_mark xs ≤ 6657
  unfolding last_mark
  last_most xs h = most_below _ 6657 kinds h

  marks-most : (xs : List Extent) → ((k : ℕ) → (get_or xs k nowhere).next ≤ 6657) → length (marks_line xs) ≤ 6658
  unfolding marks_line bytes
  marks-most xs h =
      picked (λ (x : List ℕ). length x ≤ 6658) (eqb (last_mark xs) 0) (lit≤ tt)
      (simp length-append (omega (arith, each_one (mark_at xs) (last_mark xs), last_most xs h)))

  -- ---- all of it
  reading-most : (n : ℕ) → n < 100000 → length s ≤ longest_input → length (block n r words s) ≤ 59392
  unfolding block shown bytes
  reading-most n h l =
      picked (λ (x : List ℕ). length x ≤ 59392) (eqb r.number 0) (lit≤ tt)
      (simp (length-append, length-map)
      (omega (arith, marks-most (marked r words) mark-most, plain_most 5 n (lit≤ tt) (omega arith), sentence-most)))

-- the words of a text's block
words_most : (o : Result ℕ Unopened) (es s : List ℕ) (k : ℕ)
    → (get_or (explained (opened_reading o es s) (opened_elements o es) s).words k nowhere).next ≤ longest
unfolding opened_reading opened_elements explained reason_of refused showing
words_most (Ok n) es s k = (elements_explained_below Skipping (take n es) s k).1
words_most (Err TooLong) es s k = (words_below (reason_of (refused 1 0)) [] s longest (λ a q. clash (cc)) k).1
words_most (Err (Bad p)) es s k =
    (words_below (reason_of (unless_long s (refused 3 (min p longest)))) [] s longest (unless_quarrel s (refused 3 (min p longest))) k).1

-- a block has at most 59,392 bytes
pub block_most : (o : Result ℕ Unopened) (es s : List ℕ) (n : ℕ) → n < 100000 → length s ≤ longest_input
    → length (opened_block o es n s) ≤ 59392
unfolding opened_block
block_most o es s n h l =
    reading-most (opened_reading o es s) _ s (opened_place o es s) (words_most o es s) (open_most o es s) n h l
