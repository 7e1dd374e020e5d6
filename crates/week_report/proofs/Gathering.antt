-- What the texts of an input give, one after the other, over plain variables.
-- Assumes nothing.
use Prim.Native.Nat.{ℕ, ◌+◌, ◌-◌, ◌≤◌, ◌<◌}
use mathlib.Core.List.{List, [], ◌∷◌, ◌++◌}
use mathlib.Core.Path.{◌≡◌, refl, sym, ap, ◌∙◌}
use native.Mathlib.Omega.{arith}
use borrow.Author.Tests.{eq-eqb, ne_eqb}
use lib.Dec.{eqb, lit<, lit≤}
use lib.ListN.{length, set, take, drop, length-append}
use lib.Seq.{sets}
use Rattle.std.specs.Prelude.{Ok, Err}
use Rattle.laws.proofs.Cases.{picked}
use Rattle.laws.proofs.Stores.{sets_append}
use Rattle.lists.specs.Answers.{opened_reading}
use Rattle.lists.specs.Lines.{lines, line_length}
use Rattle.lists.proofs.Figures.{opened_numbers}
use Rattle.lists.proofs.NextLine.{next_line, no_line}
use Rattle.sheets.specs.Sheets.{packing, reading_fields}
use Rattle.strptime.specs.declared.Reading.{Reading}
use Rattle.week_report.specs.Private.{tallied, sum_of, Took, Gathered}
use Rattle.week_report.specs.Texts.{Gives, sheet_or_out, given_by, sheet_in, out_in, sheets_of, outs_of}
use Rattle.week_report.proofs.Tallying.{Below, below_append, tallied_length, tallied_append, tallied_sum}
use Rattle.std.specs.Prelude.{Err, Ok, Result, ℕ}
use Rattle.format.specs.declared.opening.Unopened.{Unopened}
use Rattle.sheets.specs.declared.Unpackable.TheVariants.{Bad, NoDay}
use Rattle.sheets.specs.declared.Unpackable.{Unpackable}

-- ---- one text

module _ (r : Reading) where
  pub refused_out : (r.number ≡ 0 → ⊥) → Err r.number ≡ given_by r
  unfolding given_by
  refused_out n = rw (ne_eqb r.number 0 n)

  pub read_gives : r.number ≡ 0 → {p : Result ℕ Unpackable} → packing (reading_fields r) ≡ p → sheet_or_out p ≡ given_by r
  unfolding given_by
  read_gives e q = rw (eq-eqb r.number 0 e, q)

-- its number is below 16
packed_below : (p : Result ℕ Unpackable) → Below 16 (out_in (sheet_or_out p))
unfolding sheet_or_out out_in Below
packed_below (Ok x) = tt
packed_below (Err NoDay) = (lit< tt, tt)
packed_below (Err (Bad k)) = (lit< tt, tt)

out_below : (r : Reading) → r.number < 16 → Below 16 (out_in (given_by r))
unfolding given_by
out_below r h =
    picked (λ (g : Gives). Below 16 (out_in g)) (eqb r.number 0) (packed_below (packing (reading_fields r)))
    (unfold out_in Below in (h, tt))

pub number_below : (r : Reading) {n : ℕ} → r.number < 16 → given_by r ≡ Err n → n < 16
unfolding out_in Below
number_below r h e = (rw e at (out_below r h)).0

one_each : (g : Gives) → length (sheet_in g) + length (out_in g) ≡ 1
unfolding sheet_in out_in
one_each (Ok x) = refl
one_each (Err n) = refl

pub took_sheet : {g : Gives} {x : ℕ} (words counts : List ℕ) (n : ℕ) → g ≡ Ok x
    → Took g words n (set words n x) counts counts (n + 1)
unfolding sheet_in out_in tallied
took_sheet words counts n e = record { ends = rw e; sheets = rw e; outs = rw e }

pub took_out : {g : Gives} {k : ℕ} (words counts : List ℕ) {counts' : List ℕ} (n : ℕ) → g ≡ Err k → counts' ≡ tallied (k ∷ []) counts
    → Took g words n words counts counts' n
unfolding sheet_in out_in
took_out words counts n e f = record { ends = rw e (omega arith); sheets = rw e; outs = rw e f }

-- ---- all texts

pub read_below : (o : Result ℕ Unopened) (es t : List ℕ) → (opened_reading o es t).number < 16
read_below o es t =
    let n = opened_numbers (λ n x. n ≤ 11) (λ n h. h) (λ a b. lit≤ tt) (λ a b h i. lit≤ tt) o es t in omega arith

pub outs_below : (read : List ℕ → Reading) → ((t : List ℕ) → (read t).number < 16) → (ts : List (List ℕ)) → Below 16 (outs_of read ts)
unfolding outs_of
outs_below read h [] = unfold Below in tt
outs_below read h (t ∷ ts) = below_append 16 _ _ (out_below (read t) (h t)) (outs_below read h ts)

module _ (read : List ℕ → Reading) (s : List ℕ) (i : ℕ) where
  pub none_left : length s ≤ i → (sheets_of read (lines (drop i s)) ≡ []) × (outs_of read (lines (drop i s)) ≡ [])
  unfolding sheets_of outs_of
  none_left h = rw (no_line s i h) (refl, refl)

  module _ {stop : ℕ} (h : i < length s) (e : stop ≡ i + line_length (drop i s)) where
    abbrev text : List ℕ
    text = take (stop - i) (drop i s)

    next-sheets : sheets_of read (lines (drop i s)) ≡ sheet_in (given_by (read text)) ++ sheets_of read (lines (drop (stop + 1) s))
    unfolding sheets_of
    next-sheets = rw (next_line s i h e)

    next-outs : outs_of read (lines (drop i s)) ≡ out_in (given_by (read text)) ++ outs_of read (lines (drop (stop + 1) s))
    unfolding outs_of
    next-outs = rw (next_line s i h e)

-- ---- the loop: with what is left from here on all is as it was to be from the start

pub record Gathering (read : List ℕ → Reading) (s : List ℕ) (from : ℕ) (words₀ counts₀ words counts : List ℕ) (n next : ℕ) : Type 0 where
  pub ends : n + length (sheets_of read (lines (drop next s))) ≡ length (sheets_of read (lines (drop from s)))
  pub sheets : sets words n (sheets_of read (lines (drop next s))) ≡ sets words₀ 0 (sheets_of read (lines (drop from s)))
  pub outs : tallied (outs_of read (lines (drop next s))) counts ≡ tallied (outs_of read (lines (drop from s))) counts₀
  pub long : length counts ≡ length counts₀
  pub ahead : n + sum_of counts < next
  pub few : n + sum_of counts ≤ length s

pub gather_start : (read : List ℕ → Reading) (s : List ℕ) (from : ℕ) (words counts : List ℕ) → 0 < from → sum_of counts ≡ 0
    → Gathering read s from words counts words counts 0 from
gather_start read s from words counts h e =
    record { ends = omega arith; sheets = refl; outs = refl; long = refl; ahead = omega arith; few = omega arith }

pub gather_next : {read : List ℕ → Reading} {s : List ℕ} {from : ℕ} {words₀ counts₀ words counts : List ℕ} {n next : ℕ}
    → Gathering read s from words₀ counts₀ words counts n next → next < length s → {stop : ℕ} → stop ≡ next + line_length (drop next s)
    → length counts ≡ 16 → {r : Reading} → r ≡ read (take (stop - next) (drop next s)) → r.number < 16
    → {words' counts' : List ℕ} {n' : ℕ} → Took (given_by r) words n words' counts counts' n'
    → Gathering read s from words₀ counts₀ words' counts' n' (stop + 1)
gather_next {read} {s} {from} {words₀} {counts₀} {words} {counts} {n} {next} v h {stop} e l {r} f b {words'} {counts'} {n'} t =
    let g = given_by r in
    let rest = sheets_of read (lines (drop (stop + 1) s)) in
    let p : sheets_of read (lines (drop next s)) ≡ sheet_in g ++ rest = rw f (next-sheets read s next h e) in
    let q : outs_of read (lines (drop next s)) ≡ out_in g ++ outs_of read (lines (drop (stop + 1) s)) = rw f (next-outs read s next h e) in
    let sum : sum_of counts' ≡ sum_of counts + length (out_in g)
    = ap sum_of t.outs ∙ tallied_sum (out_in g) counts (rw l (out_below r b)) in
    let one = one_each g in
    record {
      ends = omega (arith, v.ends, ap length p, length-append (sheet_in g) rest, t.ends);
      sheets =
          rw (t.sheets, t.ends) (sym (sets_append words n (sheet_in g) rest) ∙ ap (λ (x : List ℕ). sets words n x) (sym p) ∙ v.sheets);
      outs =
          rw t.outs
          (sym (tallied_append (out_in g) (outs_of read (lines (drop (stop + 1) s))) counts)
          ∙ ap (λ (x : List ℕ). tallied x counts) (sym q)
          ∙ v.outs);
      long = ap length t.outs ∙ tallied_length (out_in g) counts ∙ v.long;
      ahead = omega (arith, v.ahead, t.ends, sum, one);
      few = omega (arith, v.ahead, t.ends, sum, one);
    }

pub gathered : {o : Result ℕ Unopened} {es s : List ℕ} {from : ℕ} {words₀ counts₀ words counts : List ℕ} {n next : ℕ}
    → Gathering (opened_reading o es) s from words₀ counts₀ words counts n next → length s ≤ next
    → Gathered o es s from words₀ words counts₀ counts n
unfolding tallied
gathered {o} {es} {s} {next = next} v h =
    let z = none_left (opened_reading o es) s next h in
    record {
      few = v.few;
      long = v.long;
      ends = omega (arith, v.ends, ap length z.0);
      sheets = rw z.0 at v.sheets;
      outs = rw z.1 at v.outs;
    }
