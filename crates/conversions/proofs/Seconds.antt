-- What is converted as s begins with s. So the reader's answer to a conversion can be had of its first byte.
-- Assumes nothing.
use Prim.Native.Char.{code}
use Prim.Native.Nat.{ℕ}
use mathlib.Core.Bool.{true, false, not}
use mathlib.Core.List.{List, [], ◌∷◌}
use mathlib.Core.Path.{◌≡◌, refl, ap}
use borrow.Author.Tests.{eqb-true, not-false}
use lib.Dec.{eqb}
use lib.ListN.{take, get_or}
use Rattle.laws.proofs.Cases.{either, picked, clash}
use Rattle.conversions.specs.Conversions.{among, is_conversion, is_composite, computes as rows-compute}
use Rattle.conversions.specs.Pieces.{letter, paired, conversion, after_E, after_O, is_read, to_read, piece}
use Rattle.conversions.specs.declared.following.Act.{Act}
use Rattle.conversions.specs.declared.following.Act.TheVariants.{Byte, Convert, Open, Refuse}
use Rattle.conversions.specs.declared.following.Piece.{Piece}
use Rattle.conversions.specs.declared.following.Style.{Style}

-- a letter, and one after E or O
letter_s : (b : ℕ) (x : Style) → letter b ≡ Convert 115 x → b ≡ 115
unfolding letter
letter_s b x =
    let P : Act → Type 0 = λ a. a ≡ Convert 115 x → b ≡ 115 in
    picked P (eqb b (code "n")) (λ e. clash (cc))
    (picked P (eqb b (code "t")) (λ e. clash (cc))
    (picked P (eqb b (code "%")) (λ e. clash (cc))
    (picked P (is_composite b) (λ e. clash (cc))
    (picked P (is_conversion b) (λ e. cc) (λ e. clash (cc))))))

paired_s : (letters s : List ℕ) (x : Style) → among 115 letters ≡ false → (paired letters s).act ≡ Convert 115 x → ⊥
unfolding paired
paired_s letters [] x n e = clash (cc)
paired_s letters (b ∷ s) x n e =
    either (λ (a : Act). a ≡ Convert 115 x → ⊥) (among b letters)
    (λ t q. let z = letter_s b x q in clash (cc (rw z at t)))
    (λ t q. clash (cc))
    e

pub conversion_s : (s : List ℕ) (x : Style) → (conversion s).act ≡ Convert 115 x → take 1 s ≡ 115 ∷ []
unfolding conversion
conversion_s [] x e = clash (cc)
conversion_s (b ∷ s) x e =
    let P : Piece → Type 0 = λ p. p.act ≡ Convert 115 x → b ≡ 115 in
    let z : b ≡ 115 =
    picked P (eqb b (code "E")) (λ q. absurd (paired_s after_E s x (unfold after_E rows-compute in refl) q))
    (picked P (eqb b (code "O")) (λ q. absurd (paired_s after_O s x (unfold after_O rows-compute in refl) q)) (λ q. letter_s b x q))
    e in
    rw z

-- what is not converted as s is read as it is
kept : (a : Act) → ((x : Style) → a ≡ Convert 115 x → ⊥) → a ≡ to_read a
unfolding to_read is_read
kept (Byte b) n = refl
kept (Convert c y) n =
    either (λ (t : Act). Convert c y ≡ t) (not (eqb c 115)) (λ _. refl)
    (λ q. absurd (n y (ap (λ d. Convert d y) (eqb-true c 115 (not-false (eqb c 115) q)))))
kept (Open c) n = refl
kept Refuse n = refl

no_s : (b : ℕ) → is_read b ≡ true → b ≡ 115 → ⊥
unfolding is_read
no_s b r e = clash (cc (rw e at r))

is_s : (b : ℕ) → is_read b ≡ false → b ≡ 115
unfolding is_read
is_s b r = eqb-true b 115 (not-false (eqb b 115) r)

-- a letter, by whether it is s
pub letter_read : (b : ℕ) → is_read b ≡ true → letter b ≡ to_read (letter b)
letter_read b r = kept (letter b) (λ x e. no_s b r (letter_s b x e))

pub letter_unread : (b : ℕ) → is_read b ≡ false → Refuse ≡ to_read (letter b)
unfolding letter to_read is_read rows-compute
letter_unread b r = rw (is_s b r)

-- a conversion, by whether it begins with s
module _ (s : List ℕ) where
  abbrev read : Piece
  read = piece (to_read (conversion s).act) (conversion s).length

  pub conversion_read : is_read (get_or s 0 0) ≡ true → conversion s ≡ read
  conversion_read r =
      ap (λ a. piece a (conversion s).length)
      (kept (conversion s).act (λ x e. no_s (get_or s 0 0) r (first s (conversion_s s x e))))
    where
      first : (s : List ℕ) → take 1 s ≡ 115 ∷ [] → get_or s 0 0 ≡ 115
      first [] e = clash (cc)
      first (b ∷ s) e = cc

  pub conversion_unread : is_read (get_or s 0 0) ≡ false → piece Refuse 2 ≡ read
  unfolding conversion letter to_read is_read rows-compute
  conversion_unread r = go s (is_s (get_or s 0 0) r)
    where
      go : (s : List ℕ) → get_or s 0 0 ≡ 115 → piece Refuse 2 ≡ piece (to_read (conversion s).act) (conversion s).length
      go [] e = clash (cc)
      go (b ∷ s) e = rw e

-- for a function that looks at the first byte
pub ruleset of_letters = (letter_read, letter_unread)

pub ruleset of_conversions = (conversion_read, conversion_unread)
