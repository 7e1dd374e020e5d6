-- What a text says by a format, and when it is matched (RULES 7): the facts are what all the elements read, one after the other.
-- Nothing here looks at what the reader keeps: only at what each element reads.
use Rattle.std.specs.Prelude.{ℕ, ◌≤◌, Bool, true, false, cond, List, [], ◌∷◌, ◌⊎◌, ◌≡◌, eqb, length}
use Rattle.format.specs.Opening.{Whole, opening, longest}
use Rattle.format.specs.declared.opening.Side.TheVariants.{Reader}
use Rattle.matching.specs.Elements.{read_element}
use Rattle.std.specs.Prelude.{Err, None, Ok, Option, Result, Some}
use Rattle.matching.specs.declared.Refused.TheVariants.{Mismatch, Range, Conflict}
use Rattle.matching.specs.declared.Refused.{Refused}
use Rattle.matching.specs.declared.elements.Item.TheVariants.{Fact as Reads, Skip}
use Rattle.matching.specs.declared.elements.Item.{Item}
use Rattle.names.specs.declared.names.NameForm.{NameForm}

-- A fact is a kind with a number, where AM is 0, PM is 1 and a zone offset is 1439 more than its minutes, and with the form of the name
-- that says it, or none where digits do; it stands in the text from its first digit or letter, or its sign, up to `next`.
pub record Fact : Type 0 where
  pub kind : ℕ
  pub number : ℕ
  pub form : Option NameForm
  pub from : ℕ
  pub next : ℕ

-- what an item says, before what `on` says from the offset after it on; after a refusal nothing is read
unfoldable pub saying : (ℕ → List Fact) → Result Item Refused → List Fact
saying on (Ok (Skip next)) = on next
saying on (Ok (Reads k n f from next)) = record { kind = k; number = n; form = f; from = from; next = next } ∷ on next
saying on (Err why) = []

-- what elements say, one after the other, from an offset of the text on
unfoldable pub facts_from : List ℕ → List ℕ → ℕ → List Fact
facts_from [] s at = []
facts_from (e ∷ es) s at = saying (λ next. facts_from es s next) (read_element e s at)

-- the facts that a text says by a format
unfoldable pub facts : List ℕ → List ℕ → List Fact
facts f s = facts_from (opening Reader f).elements s 0

-- a fact of kind k with number n is among some facts
unfoldable pub Says : List Fact → ℕ → ℕ → Type 0
Says [] k n = ⊥
Says (x ∷ xs) k n = ((x.kind ≡ k) × (x.number ≡ n)) ⊎ Says xs k n

-- a number is no name
unfoldable pub is_name : Option NameForm → Bool
is_name None = false
is_name (Some f) = true

-- the form of the last name of kind k among some facts, or none
unfoldable pub last_form : ℕ → List Fact → Option NameForm
last_form k [] = None
last_form k (x ∷ xs) = let after = last_form k xs in cond (is_name after) after (cond (eqb x.kind k) x.form None)

-- every element finds what it wants: none is refused by 6 or 7
unfoldable pub going : (ℕ → Bool) → Result Item Refused → Bool
going on (Ok (Skip next)) = on next
going on (Ok (Reads k n f from next)) = on next
going on (Err why) = false

unfoldable pub all_read : List ℕ → List ℕ → ℕ → Bool
all_read [] s at = true
all_read (e ∷ es) s at = going (λ next. all_read es s next) (read_element e s at)

-- where elements end that all find what they want: the first unread offset of the text
unfoldable pub ending : (ℕ → ℕ) → Result Item Refused → ℕ
ending on (Ok (Skip next)) = on next
ending on (Ok (Reads k n f from next)) = on next
ending on (Err (Mismatch p)) = p
ending on (Err (Range p)) = p
ending on (Err (Conflict p)) = p

unfoldable pub end_from : List ℕ → List ℕ → ℕ → ℕ
end_from [] s at = at
end_from (e ∷ es) s at = ending (λ next. end_from es s next) (read_element e s at)

-- no kind of fact is said again, differently
abbrev pub Consistent : List Fact → Type 0
Consistent xs = (k m n : ℕ) → Says xs k m → Says xs k n → m ≡ n

-- a text is matched to its format: none of 1, 5, 3, 6, 7 and 8 applies
pub record Matched (f s : List ℕ) : Type 0 where
  -- not 1, not 5, not 3
  pub format_short : length f ≤ longest
  pub text_short : length s ≤ longest
  pub format_whole : (opening Reader f).ended ≡ Whole
  -- not 6 or 7, not 8
  pub reads_all : all_read (opening Reader f).elements s 0 ≡ true
  pub consistent : Consistent (facts f s)

-- the facts, their forms and where they end, for a proof that computes
unfoldable pub computes : Unit {0}
unfolding saying facts_from facts is_name last_form ending end_from
computes = tt
