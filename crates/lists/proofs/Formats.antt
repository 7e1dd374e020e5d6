-- A format that was opened once answers each text as the reader does, over plain variables.
-- Assumes nothing.
use Prim.Native.Nat.{ℕ, zero, suc, ◌≤◌, ◌<◌, min}
use mathlib.Core.Bool.{true}
use mathlib.Core.List.{List, [], ◌∷◌}
use mathlib.Core.Path.{◌≡◌, refl, sym, ap, ◌∙◌}
use native.Mathlib.Omega.{arith}
use lib.ListN.{length, get_or, take, length-take}
use lib.Seq.{get_or-take, take-nil}
use Rattle.laws.specs.Lists.{every}
use Rattle.format.specs.Opening.{longest, most_elements, is_byte, opened, opened_into}
use Rattle.format.specs.declared.opening.Side.TheVariants.{Reader}
use Rattle.format.proofs.Elements.{are_bytes}
use Rattle.format.proofs.Openings.{opened_done, opened_bad, opened_long, stored}
use Rattle.judge.specs.declared.Engine.TheVariants.{Skipping}
use Rattle.lists.specs.Answers.{opened_reading, opened_elements}
use Rattle.strptime.specs.Answers.{reading}
use Rattle.strptime.proofs.Opened.{read_by_elements}
use Rattle.strptime.proofs.Opens.{format_long, conversion_bad}
use Rattle.std.specs.Prelude.{Err, Ok, Result, ℕ}
use Rattle.format.specs.declared.opening.Unopened.TheVariants.{Bad, TooLong}
use Rattle.format.specs.declared.opening.Unopened.{Unopened}

-- the first bytes of a slice
pub first_bytes : (s : List ℕ) (n : ℕ) → ((k : ℕ) → get_or s k 0 < 256) → every is_byte (take n s) ≡ true
first_bytes s n f =
    are_bytes (take n s) (λ k h. let l : k < n = omega (arith, length-take n s) in rw (get_or-take n s k 0 l) (f k))

-- the first elements, at most as many as there are
pub first_few : (es : List ℕ) (n : ℕ) → take (min n (length es)) es ≡ take n es
first_few [] n = take-nil (min n 0) ∙ sym (take-nil n)
first_few (e ∷ es) zero = let m : min 0 (suc (length es)) ≡ 0 = omega arith in rw m
first_few (e ∷ es) (suc n) =
    let m : min (suc n) (suc (length es)) ≡ suc (min n (length es)) = omega arith in
    rw m (ap (λ (l : List ℕ). e ∷ l) (first_few es n))

-- the first entries that opening a format stored are its elements
pub elements_first : (o : Result ℕ Unopened) (es : List ℕ) → take (length (opened_elements o es)) es ≡ opened_elements o es
unfolding opened_elements
elements_first (Ok n) es = rw (length-take n es) (first_few es n)
elements_first (Err why) es = refl

-- ---- a format answers each text as its opening does, which stored its elements into entries that have room for all of them
pub answers : (f room : List ℕ) {r : Result ℕ Unopened} {es : List ℕ} → every is_byte f ≡ true → most_elements ≤ length room
    → most_elements ≤ length es
    → r ≡ opened Reader f → es ≡ opened_into Reader f room → (s : List ℕ) → opened_reading r es s ≡ reading f s
unfolding opened_reading
answers f room {r} {es} b h k e g s = go r refl
  where
    go : (q : Result ℕ Unopened) → r ≡ q → opened_reading q es s ≡ reading f s
    go (Ok n) d =
        let o = opened_done Reader f e d in
        rw (stored Reader f room g o (omega (arith, o.few))) (read_by_elements Skipping f o.short b o.whole s)
    go (Err TooLong) d = format_long Skipping f s (opened_long Reader f e d)
    go (Err (Bad p)) d =
        let o = opened_bad Reader f e d in
        let m : min p longest ≡ p = omega (arith, o.within, o.short) in
        rw m (conversion_bad Skipping f s o.short o.bad)
