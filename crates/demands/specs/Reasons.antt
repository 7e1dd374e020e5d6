-- Why a reading is refused by 9 or 10 (RULES 8.5), by the facts that a text says and by what the writer would write. Days go by their day
-- numbers.
use Rattle.std.specs.Prelude.{ℕ, ◌≤◌, ◌<◌, Bool, true, ◌&&◌, ◌⊎◌, ◌↔◌, ◌≡◌, leb, length, get_or}
use mathlib.Core.List.{List, ◌∷◌, Memᴰ as Member}
use Rattle.calendar.specs.declared.Date.{Date}
use Rattle.format.specs.Opening.{Whole, is_byte, opening, longest}
use Rattle.format.specs.declared.opening.Side.TheVariants.{Reader}
use Rattle.agreement.specs.Demand.{IsDay, IsHour}
use Rattle.judge.specs.declared.Engine.{Engine}
use Rattle.judge.specs.declared.Engine.TheVariants.{Skipping}
use Rattle.kinds.specs.Kinds.{day_kinds, hour_kinds}
use Rattle.laws.specs.Lists.{every}
use Rattle.matching.specs.Elements.{read_element}
use Rattle.matching.specs.Extents.{extent, between, nowhere}
use Rattle.matching.specs.declared.extents.Extent.{Extent}
use Rattle.reasons.specs.Reasons.{explained_by, elements_explained_by}
use Rattle.reasons.specs.declared.About.TheVariants.{Day as TheDay, Hour as TheHour}
use Rattle.reasons.specs.declared.Part.{Part}
use Rattle.reasons.specs.declared.Part.TheVariants.{Year, Month, Day}
use Rattle.strftime.specs.declared.Fields.{Fields}
use Rattle.strptime.specs.Answers.{reading_by}
use Rattle.names.specs.Case.{fold}
use Rattle.text.specs.Digits.{is_digit}
use Rattle.text.specs.Space.{is_space}
use Rattle.demands.specs.Facts.{Fact, Says, facts}
use Rattle.demands.specs.Writes.{WouldWrite, on_day, at_hour}
use Rattle.std.specs.Prelude.{None, Ok, Option, Some}
use Rattle.matching.specs.declared.elements.Item.TheVariants.{Fact as Reads}
use Rattle.names.specs.declared.names.NameForm.{NameForm}
use Rattle.reasons.specs.declared.Reason.TheVariants.{Differ, Hours, Quarrel}
use Rattle.strptime.specs.declared.Shown.TheVariants.{Days, Hours as TwoHours}

-- ---- words

-- x is the first of some facts that is of kind k
pub data FirstOf (k : ℕ) : List Fact → Fact → Type 0 where
  here : {x : Fact} {xs : List Fact} → x.kind ≡ k → FirstOf k (x ∷ xs) x
  later : {x y : Fact} {xs : List Fact} → (y.kind ≡ k → ⊥) → FirstOf k xs x → FirstOf k (y ∷ xs) x

unfoldable pub is_letter : ℕ → Bool
is_letter b = leb 97 (fold b) && leb (fold b) 122

-- a fact's words: one byte at least, all of them digits, or all letters
pub record Spelled (s : List ℕ) (x : Fact) : Type 0 where
  pub some : x.from < x.next
  pub within : x.next ≤ length s
  pub bytes : (every is_digit (between s x.from x.next) ≡ true) ⊎ (every is_letter (between s x.from x.next) ≡ true)

-- an element that says a fact goes on from its offset over white space alone to the fact's first digit or letter
abbrev pub FromTheFirst : Type 0
FromTheFirst =
    (e at k n from next : ℕ) (s : List ℕ) (f : Option NameForm) → read_element e s at ≡ Ok (Reads k n f from next)
    → every is_space (between s at from) ≡ true

-- ---- the part in which two dates differ first

unfoldable pub FirstDiffers : Part → Date → Date → Type 0
FirstDiffers Year x y = x.year ≡ y.year → ⊥
FirstDiffers Month x y = (x.year ≡ y.year) × (x.month ≡ y.month → ⊥)
FirstDiffers Day x y = (x.year ≡ y.year) × (x.month ≡ y.month) × (x.day ≡ y.day → ⊥)

-- ---- a text read by a format, with an engine
module _ (e : Engine) (f s : List ℕ) where
  -- where the words of kind k stand; it is named if they stand somewhere
  abbrev pub words_of : ℕ → Extent
  words_of k = get_or (explained_by e f s).words k nowhere

  abbrev pub Named : ℕ → Type 0
  Named k = words_of k ≡ nowhere → ⊥

  -- the kinds that are named quarrel: `One` tells days or hours, and `fields` are those of one
  pub record Quarrels (ks : List ℕ) (One : ℕ → Type 0) (fields : ℕ → Fields) : Type 0 where
    -- each bears on what is judged, and was said
    pub bears : (k : ℕ) → Named k → Member k ks
    pub said : (k : ℕ) → Named k → (n : ℕ) × Says (facts f s) k n
    -- none agrees with all of them
    pub together : (d : ℕ) → One d → ((k n : ℕ) → Named k → Says (facts f s) k n → WouldWrite k n (fields d)) → ⊥
    -- without any one of them some does
    pub needed : (k : ℕ) → Named k
        → (d : ℕ) × One d × ((j n : ℕ) → Named j → (j ≡ k → ⊥) → Says (facts f s) j n → WouldWrite j n (fields d))
    -- kinds are tried in order: each is named exactly if some agrees with those named before it and with all that are said after it
    pub in_order : (k : ℕ) → Member k ks
        → Named k
        ↔ ((d : ℕ) × One d
        × ((j n : ℕ) → ((j < k) × Named j) ⊎ ((k < j) × Member j ks) → Says (facts f s) j n → WouldWrite j n (fields d)))
    -- its words are where it was first said
    pub words : (k : ℕ) → Named k
        → (x : Fact) × FirstOf k (facts f s) x × Spelled s x × (words_of k ≡ extent x.from x.next)

  pub record Reasons : Type 0 where
    -- a reason is there exactly with 9 and 10
    pub none : ((explained_by e f s).reason ≡ None)
        ↔ (((reading_by e f s).number ≡ 9 → ⊥) × ((reading_by e f s).number ≡ 10 → ⊥))
    -- and words only with 9
    pub no_words_lem : ((reading_by e f s).number ≡ 9 → ⊥) → (k : ℕ) → words_of k ≡ nowhere
    -- 9, for the day and for the hour
    pub no_day : (reading_by e f s).number ≡ 9 → (reading_by e f s).place ≡ 1
        → ((explained_by e f s).reason ≡ Some (Quarrel TheDay)) × Quarrels day_kinds IsDay on_day
    pub no_hour : (reading_by e f s).number ≡ 9 → (reading_by e f s).place ≡ 2
        → ((explained_by e f s).reason ≡ Some (Quarrel TheHour)) × Quarrels hour_kinds IsHour at_hour
    -- 10, for the day and for the hour
    pub two_days : (x y : Date) → (reading_by e f s).number ≡ 10 → (reading_by e f s).shown ≡ Some (Days x y)
        → (p : Part) × ((explained_by e f s).reason ≡ Some (Differ p)) × FirstDiffers p x y
    pub two_hours : (a b : ℕ) → (reading_by e f s).number ≡ 10 → (reading_by e f s).shown ≡ Some (TwoHours a b)
        → (explained_by e f s).reason ≡ Some (Hours a b)
    -- it is the same by every engine that does not refuse the reading by 11
    pub same : ((reading_by e f s).number ≡ 11 → ⊥) → explained_by e f s ≡ explained_by Skipping f s
    -- and by the elements that the format opens to
    pub by_elements_lem : length f ≤ longest → every is_byte f ≡ true → (opening Reader f).ended ≡ Whole
        → elements_explained_by e (opening Reader f).elements s ≡ explained_by e f s
