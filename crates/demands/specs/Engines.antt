-- The engines and the budget (RULES 8.4): with every engine that is not refused by 11 a reading is the same, but for the days that it
-- examined; 11 is a budget smaller than the days that the plain engine examines, and refuses the day.
use Rattle.std.specs.Prelude.{ℕ, ◌≤◌, ◌<◌, List, ◌↔◌, ◌≡◌}
use Rattle.kinds.specs.Kinds.{day_kinds}
use Rattle.agreement.specs.declared.Facts.{Facts}
use Rattle.agreement.specs.declared.Verdict.{Verdict}
use Rattle.judge.specs.Engines.{searched}
use Rattle.judge.specs.declared.Engine.{Engine}
use Rattle.judge.specs.declared.Engine.TheVariants.{Skipping, Plain, Within}
use Rattle.strptime.specs.Answers.{reading_by, reading}
use Rattle.matching.specs.Steps.{no_forms}
use Rattle.strptime.specs.declared.Reading.{Reading}
use Rattle.demands.specs.Demand.{before_nine, NoneSaid}
use Rattle.demands.specs.Rows.{OneOf}
use Rattle.std.specs.Prelude.{None, Ok}
use Rattle.judge.specs.Engines.{judged_by}

-- without a budget both engines give one verdict on every set of facts, the first two days included; only their counts may differ
abbrev pub OneVerdict : Facts → Type 0
OneVerdict x = (v : Verdict) × (m : ℕ) × (n : ℕ) × (searched Skipping x ≡ Ok (judged_by v m)) × (searched Plain x ≡ Ok (judged_by v n))

-- two readings are the same but for the days examined
pub record SameBut (r q : Reading) : Type 0 where
  pub number : r.number ≡ q.number
  pub place : r.place ≡ q.place
  pub day : r.day ≡ q.day
  pub hour : r.hour ≡ q.hour
  pub minute : r.minute ≡ q.minute
  pub second : r.second ≡ q.second
  pub offset : r.offset ≡ q.offset
  pub forms : r.forms ≡ q.forms
  pub shown : r.shown ≡ q.shown

-- a reading that is refused by 11 at a budget: nothing is handed out or shown, and the budget is what was examined
abbrev pub refused_at : ℕ → Reading
refused_at b =
    record {
      number = 11;
      place = b;
      day = None;
      hour = None;
      minute = None;
      second = None;
      offset = None;
      forms = no_forms;
      shown = None;
      examined = b;
    }

module _ (f s : List ℕ) where
  -- the days that the plain engine examines
  abbrev pub plain_days : ℕ
  plain_days = (reading_by Plain f s).examined

  -- the reading of a text by a format, with any engine
  pub record Engines : Type 0 where
    -- where it is not refused by 11 it is the reading of demand 3
    pub same : (e : Engine) → ((reading_by e f s).number ≡ 11 → ⊥) → SameBut (reading_by e f s) (reading f s)
    -- without a budget it never is
    pub skipping : (reading_by Skipping f s).number ≡ 11 → ⊥
    pub plain : (reading_by Plain f s).number ≡ 11 → ⊥
    -- none is examined where no fact bears on the day, or where it was refused before the day was judged
    pub unborne : (e : Engine) → NoneSaid f s day_kinds → (reading_by e f s).examined ≡ 0
    pub refused_before : (e : Engine) → OneOf before_nine (reading_by e f s).number → (reading_by e f s).examined ≡ 0
    -- 11 exactly where the budget is smaller than the days that the plain engine examines
    pub eleven : (b : ℕ) → ((reading_by (Within b) f s).number ≡ 11) ↔ (b < plain_days)
    pub too_small : (b : ℕ) → b < plain_days → reading_by (Within b) f s ≡ refused_at b
    -- otherwise the budget changes nothing
    pub enough : (b : ℕ) → plain_days ≤ b → reading_by (Within b) f s ≡ reading_by Plain f s
    -- and a larger budget changes no reading that was not refused by 11
    pub larger : (b c : ℕ) → b ≤ c → ((reading_by (Within b) f s).number ≡ 11 → ⊥)
        → reading_by (Within c) f s ≡ reading_by (Within b) f s
