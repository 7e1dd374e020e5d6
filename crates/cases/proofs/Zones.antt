-- Zone offsets: what %z writes reads back, each offset by computing; neither the day nor the hour depends on the offset; and the cases.
-- Assumes nothing.
use Prim.Native.Nat.{ℕ, suc, ◌≤◌, ◌<◌}
use mathlib.Core.Bool.{Bool, true, not, and-eq-true_iff}
use mathlib.Core.List.{List, [], ◌∷◌, map, append-nil}
use mathlib.Core.Path.{◌≡◌, refl, sym, ap, ◌∙◌, fun_ext}
use native.Mathlib.Omega.{arith}
use borrow.Author.Tests.{leb-true, ltb-true}
use lib.Dec.{eqb, ltb, lit≤}
use lib.IntN.{ℤ, pos, negsuc}
use lib.Seq.{get_or-set_other}
use Rattle.laws.specs.Bytes.{bytes}
use Rattle.laws.specs.Lists.{every, range}
use Rattle.laws.proofs.Cases.{either, clash}
use Rattle.laws.proofs.Table.{same_at}
use Rattle.kinds.specs.Kinds as kinds
use Rattle.kinds.specs.Kinds.{day_kinds, hour_kinds, zone_offset}
use Rattle.calendar.specs.Calendar as calendar
use Rattle.calendar.specs.Calendar.{days, date_of}
use Rattle.values.specs.Moments as moments
use Rattle.values.specs.Moments.{moment_fault, moment_of}
use Rattle.values.specs.Offsets as offsets
use Rattle.values.specs.Offsets.{is_offset}
use Rattle.values.specs.Values as values
use Rattle.values.specs.declared.Moment.{Moment}
use Rattle.names.specs.Case.{fold, cased}
use Rattle.text.specs.Digits as digits
use Rattle.text.specs.Digits.{plain, filled, leading, is_digit, digit_run, decimal, read_digits}
use Rattle.text.specs.Fill.{fill}
use Rattle.names.specs.Names as names
use Rattle.names.specs.Names.{goes_on, first_form, read_name}
use Rattle.names.specs.Naming as naming
use Rattle.text.specs.Space.{is_space, spaces}
use Rattle.conversions.specs.Conversions as conversions
use Rattle.format.specs.Opening as opening
use Rattle.format.specs.Opening.{Opening, Whole, opening}
use Rattle.format.specs.declared.opening.Side.TheVariants.{Writer}
use Rattle.converted.specs.Converted as written
use Rattle.strftime.specs.Writing as writer
use Rattle.strftime.specs.Writing.{put, text, lacking}
use Rattle.converted.specs.Zones as zones
use Rattle.converted.specs.Zones.{east, zone}
use Rattle.strftime.specs.declared.Fields.{Fields}
use Rattle.strftime.proofs.Complete.{puts_text}
use Rattle.strftime.proofs.Order.{is_moment}
use Rattle.values.proofs.Ranges.{no_fault_moment}
use Rattle.converted.proofs.Offsets.{east_length}
use Rattle.agreement.specs.Agreement as agreement
use Rattle.agreement.specs.Agreement.{said, none_said, day_borne, hour_borne, agrees, all_agree, date_agrees, day_agrees, hour_agrees}
use Rattle.agreement.specs.Search as search
use Rattle.agreement.specs.Search.{first_two, through}
use Rattle.agreement.specs.Verdicts as verdicts
use Rattle.agreement.specs.Verdicts.{days_found, day_verdict, hour_verdict}
use Rattle.agreement.specs.declared.Facts.{Facts}
use Rattle.judge.specs.Engines as engines
use Rattle.judge.specs.Engines.{last_examined, plain_count, month_kinds, month_agrees, month_days, skipping_count}
use Rattle.judge.specs.Engines.{counted, plain_searched, searched}
use Rattle.judge.specs.declared.Engine.{Engine}
use Rattle.judge.specs.declared.Engine.TheVariants.{Skipping, Plain, Within}
use Rattle.matching.specs.Elements as elements
use Rattle.matching.specs.Steps as steps
use Rattle.matching.specs.Steps.{noted}
use Rattle.strptime.specs.Answers as answers
use Rattle.strptime.specs.Answers.{finished, reading}
use Rattle.strptime.specs.declared.Reading.{Reading}
use Rattle.demands.specs.Columns.{Writes}
use Rattle.demands.proofs.Seconds.{no_seconds}
use Rattle.cases.specs.Offsets as cases
use Rattle.cases.specs.Offsets.{ZoneRule, Ignored, Answer, write_cases, read_cases}
use Rattle.cases.specs.Starred.{Case}
use Rattle.std.specs.Prelude.{None, Ok, Result, Some}
use Rattle.values.specs.declared.fields.Field.{Field}

-- ---- the cases

pub all_written : map (λ (c : Case). c.0) write_cases ≡ map (λ (c : Case). c.1) write_cases
unfolding cases.computes digits.digits plain filled leading fill is_digit digit_run decimal calendar.computes
    moments.computes offsets.computes
    values.computes names.computes naming.computes cased conversions.computes opening.computes writer.computes
all_written = refl

pub reads_all : map (λ (c : Answer × Answer). c.0) read_cases ≡ map (λ (c : Answer × Answer). c.1) read_cases
unfolding cases.computes fold is_digit digit_run decimal read_digits goes_on first_form read_name is_space spaces calendar.computes
    values.computes
    names.computes naming.computes conversions.computes opening.computes agreement.computes search.computes verdicts.computes
    engines.computes elements.computes steps.computes answers.computes offsets.computes
reads_all = refl

-- ---- %z reads what it wrote

-- a reading of five bytes by %z that gives an offset
abbrev got : ℤ → Reading
got z = finished 5 None None None None (Some z)

from_zero : (n : ℕ) → n ≤ 1439 → reading (bytes "%z") (east (pos n)) ≡ got (pos n)
from_zero n h = same_at (λ k. reading (bytes "%z") (east (pos k))) (λ k. got (pos k)) 1440 0 computed n (omega arith) (omega arith)
  where
    computed : map (λ k. reading (bytes "%z") (east (pos k))) (range 0 1440) ≡ map (λ k. got (pos k)) (range 0 1440)
    computed =
        unfold zones.computes filled leading is_digit digit_run decimal read_digits is_space spaces conversions.computes opening.computes
        agreement.computes verdicts.computes engines.computes elements.computes steps.computes answers.computes offsets.computes range
        in refl

below_zero : (n : ℕ) → n ≤ 1438 → reading (bytes "%z") (east (negsuc n)) ≡ got (negsuc n)
below_zero n h = same_at (λ k. reading (bytes "%z") (east (negsuc k))) (λ k. got (negsuc k)) 1439 0 computed n (omega arith) (omega arith)
  where
    computed : map (λ k. reading (bytes "%z") (east (negsuc k))) (range 0 1439) ≡ map (λ k. got (negsuc k)) (range 0 1439)
    computed =
        unfold zones.computes filled leading is_digit digit_run decimal read_digits is_space spaces conversions.computes opening.computes
        agreement.computes verdicts.computes engines.computes elements.computes steps.computes answers.computes offsets.computes range
        in refl

reads_back : (z : ℤ) → is_offset (Some z) ≡ true → reading (bytes "%z") (east z) ≡ got z
unfolding is_offset
reads_back (pos n) e = from_zero n (leb-true n 1439 e)
reads_back (negsuc n) e = below_zero n (omega (arith, leb-true (suc n) 1439 e))

-- ---- the day and the hour do not depend on it

module _ (f : Facts) (n : ℕ) where
  abbrev other : Facts
  other = noted f zone_offset n

  same-said : (k : ℕ) → k < zone_offset → said other k ≡ said f k
  unfolding noted
  same-said k h = get_or-set_other f.said zone_offset k (suc n) 0 (λ e. omega arith)

  -- a test of each of some kinds below it
  same-every : (p q : ℕ → Bool) → ((k : ℕ) → k < zone_offset → p k ≡ q k) → (ks : List ℕ) → every (λ k. ltb k zone_offset) ks ≡ true
      → every p ks ≡ every q ks
  unfolding every
  same-every p q s [] e = refl
  same-every p q s (k ∷ ks) e =
      let u = (and-eq-true_iff (ltb k zone_offset) (every (λ k. ltb k zone_offset) ks)).0 e in
      rw (s k (ltb-true k zone_offset u.0), same-every p q s ks u.1)

  same_none : (ks : List ℕ) → every (λ k. ltb k zone_offset) ks ≡ true → none_said other ks ≡ none_said f ks
  same_none ks = same-every (λ k. eqb (said other k) 0) (λ k. eqb (said f k) 0) (λ k h. ap (λ s. eqb s 0) (same-said k h)) ks

  same-agree : (ks : List ℕ) → every (λ k. ltb k zone_offset) ks ≡ true → (v : ℕ → ℕ) → all_agree other ks v ≡ all_agree f ks v
  same-agree ks e v =
      same-every (λ k. agrees (said other k) (v k)) (λ k. agrees (said f k) (v k)) (λ k h. ap (λ s. agrees s (v k)) (same-said k h)) ks e

  day-small : every (λ k. ltb k zone_offset) day_kinds ≡ true
  day-small = unfold kinds.computes every in refl

  hour-small : every (λ k. ltb k zone_offset) hour_kinds ≡ true
  hour-small = unfold kinds.computes every in refl

  month-small : every (λ k. ltb k zone_offset) month_kinds ≡ true
  month-small = unfold month_kinds every in refl

  same-day : day_agrees other ≡ day_agrees f
  unfolding day_agrees date_agrees
  same-day = fun_ext (λ k. same-agree day_kinds day-small (λ j. values.date_value j (date_of k)))

  same-hour : hour_agrees other ≡ hour_agrees f
  unfolding hour_agrees
  same-hour = fun_ext (λ h. same-agree hour_kinds hour-small (λ j. values.hour_value j h))

  same-month : month_agrees other ≡ month_agrees f
  unfolding month_agrees
  same-month = fun_ext (λ k. same-agree month_kinds month-small (λ j. values.date_value j (date_of k)))

  day-borne : day_borne other ≡ day_borne f
  unfolding day_borne
  day-borne = ap not (same_none day_kinds day-small)

  hour-borne : hour_borne other ≡ hour_borne f
  unfolding hour_borne
  hour-borne = ap not (same_none hour_kinds hour-small)

  same-found : days_found other ≡ days_found f
  unfolding days_found
  same-found = ap (λ p. first_two p 1 days) same-day

  same-verdict : day_verdict other ≡ day_verdict f
  unfolding day_verdict
  same-verdict = rw (same-found, day-borne)

  same-last : last_examined other ≡ last_examined f
  unfolding last_examined
  same-last = ap (through days) same-found

  same-plain : counted other (plain_count other) ≡ counted f (plain_count f)
  unfolding counted plain_count
  same-plain = rw (day-borne, same-last)

  same-skipping : counted other (skipping_count other) ≡ counted f (skipping_count f)
  unfolding counted skipping_count month_days
  same-skipping = rw (day-borne, same-last, same-month)

  same-search : plain_searched other ≡ plain_searched f
  unfolding plain_searched
  same-search = rw (same-verdict, same-plain)

  pub ignored : (e : Engine) → Ignored e f n
  ignored e = record { day = by-engine e; hour = by-hour }
    where
      by-hour : hour_verdict other ≡ hour_verdict f
      by-hour = unfold hour_verdict in rw (hour-borne, ap (λ p. first_two p 0 24) same-hour)

      by-engine : (e : Engine) → searched e other ≡ searched e f
      by-engine Skipping = unfold searched in rw (same-verdict, same-skipping)
      by-engine Plain = unfold searched in same-search
      by-engine (Within b) = unfold searched in rw (same-search, same-plain)

-- ---- %z of a moment

same_offset : (t : Fields) (m : Moment)
    → moment_of t.year t.month t.day t.hour t.minute t.second t.offset ≡ Ok m → m.offset ≡ t.offset
unfolding moment_of
same_offset t m =
    either (λ (r : Result Moment Field). r ≡ Ok m → m.offset ≡ t.offset)
    (eqb (moment_fault t.year t.month t.day t.hour t.minute t.second t.offset) 0)
    (λ _ q.
    let e : record {
      date = calendar.date t.year t.month t.day;
      hour = t.hour;
      minute = t.minute;
      second = t.second;
      offset = t.offset;
    } ≡ m = cc in
    ap (λ (x : Moment). x.offset) (sym e))
    (λ _ q. clash (cc))

-- %z, opened and written
zone_element : ℕ
zone_element = 378

opened : opening Writer (bytes "%z") ≡ record { elements = zone_element ∷ []; ended = Whole }
unfolding zone_element opening.computes conversions.computes
opened = refl

zone_text : (m : Moment) → text m (zone_element ∷ []) ≡ zone m.offset
unfolding zone_element writer.text writer.element written.converted written.formed conversions.computes
zone_text m = append-nil (zone m.offset)

module _ (t : Fields) (m : Moment)
    (v : moment_of t.year t.month t.day t.hour t.minute t.second t.offset ≡ Ok m) where
  zone-writes : Writes (bytes "%z") t (zone t.offset)
  zone-writes b =
      puts_text (bytes "%z") t b (unfold bytes in lit≤ tt) (ap (λ (o : Opening). o.ended) opened) v
      (ap (λ (o : Opening). lacking m.offset o.elements) opened
      ∙ no_seconds m.offset zone_element (unfold zone_element writer.is_seconds in refl))
      ∙ ap (λ (x : List ℕ). put x b)
      (ap (λ (o : Opening). text m o.elements) opened ∙ zone_text m ∙ ap zone (same_offset t m v))

  in-range : is_offset t.offset ≡ true
  in-range = rw (same_offset t m v) at (no_fault_moment m (is_moment t refl v)).offset

pub zone_rule : ZoneRule
unfolding zones.zone
zone_rule t m v =
    record {
      unsaid = λ e b. zone-writes t m v b ∙ rw e;
      said = λ z e. (
        east z,
        λ b. zone-writes t m v b ∙ rw e,
        east_length z,
        reads_back z (rw e at (in-range t m v)),
      );
    }
