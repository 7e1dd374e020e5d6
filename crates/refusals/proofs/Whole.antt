-- What is said of all texts of a list: text by text, and that its parts make it, over plain variables.
-- Assumes nothing.
use Prim.Native.Nat.{ℕ, suc, ◌+◌, ◌-◌, ◌≤◌, ◌<◌}
use mathlib.Core.Bool.{Bool, true, false, cond}
use mathlib.Core.List.{List, [], ◌∷◌, ◌++◌}
use mathlib.Core.Path.{◌≡◌, refl, sym, ◌∙◌}
use native.Mathlib.Decide.{dec_le}
use native.Mathlib.Nat.{lt_of_not-le}
use native.Mathlib.Numerals.{add-one}
use native.Mathlib.Omega.{arith}
use borrow.Author.Tests.{le-leb, lt-leb}
use lib.Dec.{leb}
use lib.ListN.{length, take, drop}
use Rattle.format.specs.Opening.{most_elements, opened, opened_into}
use Rattle.format.specs.declared.opening.Side.TheVariants.{Reader}
use Rattle.format.proofs.Openings.{opened_done, stored}
use Rattle.lists.specs.Answers.{opened_reading, opened_elements}
use Rattle.lists.specs.Lines.{lines, line_length, longest_input}
use Rattle.lists.specs.Parts.{InParts}
use Rattle.lists.proofs.NextLine.{first_line, next_line, no_line}
use Rattle.lists.proofs.Parts.{in_parts}
use Rattle.reasons.specs.Reasons.{format_elements}
use Rattle.strptime.specs.Answers.{reading}
use Rattle.refusals.specs.Blocks.{blocks, block_by, refusals_on, refusals_of, line_number, opened_block, blocks_by}
use Rattle.refusals.proofs.Numbering.{first_number, next_number}
use Rattle.std.specs.Prelude.{Err, Ok, Result, ℕ}
use Rattle.format.specs.declared.opening.Unopened.TheVariants.{Bad, TooLong}
use Rattle.format.specs.declared.opening.Unopened.{Unopened}

-- ---- at the input's end nothing is left
no_blocks : (f : ℕ → List ℕ → List ℕ) (n : ℕ) (s : List ℕ) (i : ℕ) → length s ≤ i → blocks f n (lines (drop i s)) ≡ []
unfolding blocks
no_blocks f n s i h = rw (no_line s i h)

pub none_left : (o : Result ℕ Unopened) (es s : List ℕ) (i : ℕ) → length s ≤ i → blocks_by o es s i ≡ []
unfolding blocks_by
none_left o es s i h = rw (no_blocks (opened_block o es) (line_number s i) s i h) (go (leb (length s) longest_input))
  where
    go : (b : Bool) → cond {A = List ℕ} b [] [] ≡ []
    go true = refl
    go false = refl

pub refusals_in_parts : InParts refusals_of blocks_by
refusals_in_parts = in_parts refusals_of blocks_by none_left

-- ---- what is left, by the number of the line that it begins with: where there is none, the number does not matter
pub left : (o : Result ℕ Unopened) (es s : List ℕ) (i n : ℕ) → length s ≤ longest_input → (i < length s → n ≡ line_number s i)
    → blocks_by o es s i ≡ blocks (opened_block o es) n (lines (drop i s))
unfolding blocks_by
left o es s i n h e = rw (le-leb (length s) longest_input h) (go (dec_le (length s) i))
  where
    go : Dec (length s ≤ i)
        → blocks (opened_block o es) (line_number s i) (lines (drop i s)) ≡ blocks (opened_block o es) n (lines (drop i s))
    go (yes l) = rw (no_line s i l) (unfold blocks in refl)
    go (no l) = rw (← e (lt_of_not-le l))

-- nothing is left of too long an input
pub too_long_lem : (o : Result ℕ Unopened) (es s : List ℕ) (i j : ℕ) → longest_input < length s → blocks_by o es s i ≡ blocks_by o es s j
unfolding blocks_by
too_long_lem o es s i j h = rw (lt-leb (length s) longest_input h)

-- ---- one text more
pub next_block : (f : ℕ → List ℕ → List ℕ) (n : ℕ) (s : List ℕ) (i : ℕ) {stop : ℕ} → i < length s → stop ≡ i + line_length (drop i s)
    → blocks f n (lines (drop i s)) ≡ f n (take (stop - i) (drop i s)) ++ blocks f (n + 1) (lines (drop (stop + 1) s))
unfolding blocks
next_block f n s i h e = rw (next_line s i h e, add-one n)

-- ---- the whole: from the second line on, by what opening the first one answered and stored
same_blocks : {f g : ℕ → List ℕ → List ℕ} → ((n : ℕ) (t : List ℕ) → f n t ≡ g n t)
    → (n : ℕ) (ts : List (List ℕ)) → blocks f n ts ≡ blocks g n ts
unfolding blocks
same_blocks e n [] = refl
same_blocks e n (t ∷ ts) = rw (e n t, same_blocks e (suc n) ts)

elements_alike : (f room : List ℕ) {r : Result ℕ Unopened} {es : List ℕ} → most_elements ≤ length room → r ≡ opened Reader f
    → es ≡ opened_into Reader f room → opened_elements r es ≡ format_elements f
unfolding opened_elements format_elements
elements_alike f room {r} {es} h e g = go r refl
  where
    go : (q : Result ℕ Unopened) → r ≡ q → opened_elements q es ≡ format_elements f
    go (Ok n) d = let o = opened_done Reader f e d in rw (sym e ∙ d, stored Reader f room g o (omega (arith, o.few)))
    go (Err TooLong) d = rw (sym e ∙ d)
    go (Err (Bad p)) d = rw (sym e ∙ d)

-- the texts are on lines 2, 3, ..
by_lines : (s : List ℕ) → refusals_on (lines s) ≡ blocks (block_by (take (line_length s) s)) 2 (lines (drop (suc (line_length s)) s))
unfolding refusals_on blocks lines
by_lines [] = refl
by_lines (b ∷ s) = rw (first_line (b ∷ s) (omega arith))

second : (s : List ℕ) → suc (line_length s) < length s → 2 ≡ line_number s (suc (line_length s))
second s h = sym (rw (add-one (line_length s), first_number s) at (next_number s 0 {stop = line_length s} (omega arith) (omega arith)))

pub whole : (s room : List ℕ) {r : Result ℕ Unopened} {es : List ℕ} →
    let f = take (line_length s) s in
    most_elements ≤ length room → r ≡ opened Reader f → es ≡ opened_into Reader f room
    → ((t : List ℕ) → opened_reading r es t ≡ reading f t) → length s ≤ longest_input
    → refusals_on (lines s) ≡ [] ++ blocks_by r es s (suc (line_length s))
unfolding opened_block block_by
whole s room {r} {es} h e g a l =
    let f = take (line_length s) s in
    let same : (n : ℕ) (t : List ℕ) → opened_block r es n t ≡ block_by f n t = λ n t. rw (a t, elements_alike f room h e g) in
    by_lines s
    ∙ sym (same_blocks same 2 (lines (drop (suc (line_length s)) s)))
    ∙ sym (left r es s (suc (line_length s)) 2 l (second s))
