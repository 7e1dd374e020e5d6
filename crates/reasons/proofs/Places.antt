-- The words that a reason names stand within a text that is not too long.
-- Assumes nothing.
use Prim.Native.Nat.{ℕ, ◌≤◌, ◌<◌, ◌^◌}
use mathlib.Core.Bool.{Bool, true, false, cond}
use mathlib.Core.List.{List}
use mathlib.Core.Path.{◌≡◌, refl}
use native.Mathlib.Decide.{dec_le}
use native.Mathlib.Nat.{lt_of_not-le}
use native.Mathlib.Omega.{arith}
use borrow.Author.Tests.{leb-true}
use lib.Dec.{leb}
use lib.ListN.{length, get_or}
use Rattle.format.specs.Opening.{longest}
use Rattle.judge.specs.declared.Engine.{Engine}
use Rattle.kinds.specs.Kinds.{kinds}
use Rattle.laws.proofs.Cases.{picked, clash}
use Rattle.matching.specs.Extents.{nowhere, first_said}
use Rattle.matching.specs.declared.extents.Extent.{Extent}
use Rattle.matching.proofs.FirstSaid.{Inside, nowhere_inside, said_inside}
use Rattle.reasons.specs.Quarrels.{is_named}
use Rattle.reasons.specs.Reasons.{reason_of, facts_in, quarrel_words, words_for, explained, format_elements}
use Rattle.reasons.specs.Reasons.{explained_by, elements_explained_by}
use Rattle.reasons.specs.declared.About.{About}
use Rattle.reasons.proofs.Named.{entry, past, no_word}
use Rattle.strptime.specs.Answers.{showing, refused, by_format, by_elements, unless_long, reading_by, elements_reading_by}
use Rattle.strptime.specs.declared.Reading.{Reading}
use Rattle.std.specs.Prelude.{None, Option, Some}
use Rattle.reasons.specs.declared.Reason.TheVariants.{Differ, Hours, Quarrel}
use Rattle.reasons.specs.declared.Reason.{Reason}

-- an extent at most n
abbrev pub Below : ℕ → Extent → Type 0
Below n x = (x.from ≤ n) × (x.next ≤ n)

quarrel_below : (a : About) (es s : List ℕ) (n : ℕ) → length s ≤ n → (k : ℕ) → Below n (get_or (quarrel_words a es s) k nowhere)
unfolding quarrel_words
quarrel_below a es s n h k =
    let f : ℕ → Extent = λ j. cond (is_named a (facts_in es s) j) (first_said j es s 0) nowhere in
    let inside : (j : ℕ) → Inside s (f j) = λ j.
    picked (Inside s) (is_named a (facts_in es s) j) (said_inside j s es 0 (omega arith)) (nowhere_inside s) in
    elim (dec_le kinds k) [
      | yes l ↦ rw (past f nowhere kinds k l) (let i = nowhere_inside s in (omega (arith, i.0), omega (arith, i.1)))
      | no l ↦ rw (entry f nowhere kinds k (lt_of_not-le l)) (let i = inside k in (omega (arith, i.0), omega (arith, i.1)))
    ]

-- the words of a reason that is a quarrel only about such a text
pub words_below : (r : Option Reason) (es s : List ℕ) (n : ℕ) → ((a : About) → r ≡ Some (Quarrel a) → length s ≤ n)
    → (k : ℕ) → Below n (get_or (words_for r es s) k nowhere)
unfolding words_for nowhere
words_below None es s n h k = rw (no_word k) (omega arith, omega arith)
words_below (Some (Quarrel a)) es s n h k = quarrel_below a es s n (h a refl) k
words_below (Some (Differ p)) es s n h k = rw (no_word k) (omega arith, omega arith)
words_below (Some (Hours a b)) es s n h k = rw (no_word k) (omega arith, omega arith)

-- of any reason within any text
pub explained_inside : (r : Reading) (es s : List ℕ) (k : ℕ) → Below (length s) (get_or (explained r es s).words k nowhere)
unfolding explained
explained_inside r es s k = words_below (reason_of r) es s (length s) (λ a e. omega arith) k

-- a longer text is refused by another number
pub unless_quarrel : (s : List ℕ) (r : Reading) (a : About) → reason_of (unless_long s r) ≡ Some (Quarrel a) → length s ≤ longest
unfolding unless_long reason_of refused showing
unless_quarrel s r a = go (leb (length s) longest) refl
  where
    go : (b : Bool) → leb (length s) longest ≡ b → reason_of (cond b r (refused 5 0)) ≡ Some (Quarrel a) → length s ≤ longest
    go true e q = leb-true (length s) longest e
    go false e q = clash (cc)

format_quarrel : (e : Engine) (f s : List ℕ) (a : About) → reason_of (reading_by e f s) ≡ Some (Quarrel a) → length s ≤ longest
unfolding reading_by reason_of refused showing
format_quarrel e f s a = go (leb (length f) longest)
  where
    go : (b : Bool) → reason_of (cond b (unless_long s (by_format e f s)) (refused 1 0)) ≡ Some (Quarrel a) → length s ≤ longest
    go true q = unless_quarrel s (by_format e f s) a q
    go false q = clash (cc)

pub explained_below : (e : Engine) (f s : List ℕ) (k : ℕ) → Below longest (get_or (explained_by e f s).words k nowhere)
unfolding explained
explained_below e f s k = words_below (reason_of (reading_by e f s)) (format_elements f) s longest (format_quarrel e f s) k

pub elements_explained_below : (e : Engine) (es s : List ℕ) (k : ℕ) → Below longest (get_or (elements_explained_by e es s).words k nowhere)
unfolding explained elements_reading_by
elements_explained_below e es s k =
    words_below (reason_of (elements_reading_by e es s)) es s longest (unless_quarrel s (by_elements e es s)) k

-- so they fit 32 bits
abbrev pub Fits : Extent → Type 0
Fits x = (x.from < 2 ^ 32) × (x.next < 2 ^ 32)

below_fits : (x : Extent) → Below longest x → Fits x
below_fits x b = (omega (arith, b.0), omega (arith, b.1))

pub explained_fits : (e : Engine) (f s : List ℕ) (k : ℕ) → Fits (get_or (explained_by e f s).words k nowhere)
explained_fits e f s k = below_fits _ (explained_below e f s k)

pub elements_explained_fits : (e : Engine) (es s : List ℕ) (k : ℕ) → Fits (get_or (elements_explained_by e es s).words k nowhere)
elements_explained_fits e es s k = below_fits _ (elements_explained_below e es s k)
