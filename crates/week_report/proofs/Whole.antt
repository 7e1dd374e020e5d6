-- The whole report, over plain variables: what begins it, what the texts give, the weeks, and what was left out.
-- Assumes nothing.
use Prim.Native.Nat.{ℕ, suc, ◌+◌, ◌^◌, ◌≤◌, ◌<◌}
use mathlib.Core.List.{List, [], ◌∷◌, ◌++◌}
use mathlib.Core.Path.{◌≡◌, refl, sym, ap, ◌∙◌}
use native.Mathlib.Omega.{arith}
use borrow.Author.Tests.{le-leb, lt-leb}
use lib.Dec.{lit<}
use lib.ListN.{length, get_or, set, take, drop, replicate, length-append, length-replicate}
use lib.Seq.{sets, length-sets, take_all, take_at, drop_at}
use Rattle.format.specs.Opening.{most_elements}
use Rattle.laws.proofs.Stores.{sets_start}
use Rattle.lists.specs.Answers.{opened_reading}
use Rattle.lists.specs.Lines.{lines, line_length, longest_input, too_long, on_lines}
use Rattle.lists.specs.Parts.{Begun}
use Rattle.lists.specs.Putting.{Put, Writes}
use Rattle.lists.specs.declared.First.{First}
use Rattle.lists.specs.declared.putting.Writer.{Writer}
use Rattle.lists.proofs.Begun.{reads_alike}
use Rattle.lists.proofs.NextLine.{first_line}
use Rattle.lists.proofs.Puts as puts
use Rattle.lists.proofs.Writing.{then, given_back}
use Rattle.sheet_list.specs.Adding.{most_words, table_length}
use Rattle.sheet_list.specs.Private.{IsTallied}
use Rattle.sheet_list.specs.Tallies.{tallies_of, with_sheets}
use Rattle.sheet_list.specs.declared.tallies.Tallied.{Tallied}
use Rattle.sheet_list.proofs.Tallying.{good, front, table_size, within, left_most as few-left}
use Rattle.strptime.specs.Answers.{reading}
use Rattle.strptime.specs.declared.Reading.{Reading}
use Rattle.week_report.specs.Private.{tallied, sum_of, table_shown, left_shown, Small, Gathered}
use Rattle.week_report.specs.Texts.{sheets_of, outs_of}
use Rattle.week_report.specs.Weeks.{week_lines, numbers, left_out, no_room, weeks_and_left, week_report_by, week_report_on, week_report_of}
use Rattle.week_report.specs.Weeks.{Reported}
use Rattle.week_report.proofs.Gathering.{outs_below, read_below}
use Rattle.week_report.proofs.Lengths.{weeks_most, left_most}
use Rattle.week_report.proofs.Showing.{table_lines, table_small, left_lines}
use Rattle.week_report.proofs.Tallying.{Below, below_append, below_same, at_most_sum, tallied_length, tallied_append, tallied_sum}
use Rattle.week_report.proofs.Tallying.{tallied_same}

-- ---- the report on the lines of an input

-- the texts of an input
abbrev texts : List ℕ → List (List ℕ)
texts s = lines (drop (suc (line_length s)) s)

sheets_alike : {read read' : List ℕ → Reading} → ((t : List ℕ) → read t ≡ read' t) → (ts : List (List ℕ))
    → sheets_of read ts ≡ sheets_of read' ts
unfolding sheets_of
sheets_alike e [] = refl
sheets_alike e (t ∷ ts) = rw (e t, sheets_alike e ts)

outs_alike : {read read' : List ℕ → Reading} → ((t : List ℕ) → read t ≡ read' t) → (ts : List (List ℕ))
    → outs_of read ts ≡ outs_of read' ts
unfolding outs_of
outs_alike e [] = refl
outs_alike e (t ∷ ts) = rw (e t, outs_alike e ts)

by_lines : (s : List ℕ) → week_report_on (lines s) ≡ week_report_by (reading (take (line_length s) s)) (texts s)
unfolding week_report_on lines
by_lines [] = unfold week_report_by weeks_and_left week_lines sheets_of outs_of with_sheets in refl
by_lines (b ∷ s) = rw (first_line (b ∷ s) (omega arith))

module _ (s : List ℕ) where
  whole : length s ≤ longest_input → {read : List ℕ → Reading} → ((t : List ℕ) → read t ≡ reading (take (line_length s) s) t)
      → week_report_of s ≡ weeks_and_left (tallies_of (sheets_of read (texts s))) (outs_of read (texts s))
  unfolding week_report_of on_lines week_report_by
  whole h f = rw (le-leb (length s) longest_input h, sheets_alike f (texts s), outs_alike f (texts s)) (by_lines s)

  too_long_lem : longest_input < length s → week_report_of s ≡ too_long
  unfolding week_report_of on_lines
  too_long_lem h = rw (lt-leb (length s) longest_input h)

-- ---- what is put from the start on, and fits, stands there

reported : {x before after : List ℕ} {r : ℕ} → Put x before 0 after r → length x ≤ length before → Reported x before after r
reported {x} {before} {after} {r} p h =
    let n : r ≡ length x = omega (arith, p.ends) in
    let e : after ≡ x ++ drop (length x) before
    = p.stores ∙ sets_start before x ∙ ap (λ (l : List ℕ). l ++ drop (length x) before) (take_all (length before) x h) in
    record {
      ends = n;
      stands = rw (e, n) (take_at x (drop (length x) before) (length x) refl);
      kept = rw (e, n) (drop_at x (drop (length x) before) (length x) refl);
    }

module _ {s room es before between : List ℕ} {f : First} (b : Begun [] s room es before between f) where
  pub long_reported : longest_input < length s → length too_long ≤ length before → Reported (week_report_of s) before between f.count
  long_reported h l = rw (too_long_lem s h) (reported (rw (lt-leb (length s) longest_input h) at b.puts) l)

  module _ (short : length s ≤ longest_input) where
    begun : Put [] before 0 between f.count
    begun = rw (le-leb (length s) longest_input short) at b.puts

    pub next_is : f.next ≡ suc (line_length s)
    next_is = rw (le-leb (length s) longest_input short) at b.goes

    module _ {words₀ words counts : List ℕ} {n : ℕ} (g : Gathered f.opened es s f.next words₀ words (replicate numbers 0) counts n)
        (enough : longest_input ≤ length words₀) where
      abbrev read : List ℕ → Reading
      read = opened_reading f.opened es

      abbrev sheets : List ℕ
      sheets = sheets_of read (texts s)

      abbrev outs : List ℕ
      outs = outs_of read (texts s)

      from_is : lines (drop f.next s) ≡ texts s
      from_is = rw next_is

      sheets-are : sheets_of read (lines (drop f.next s)) ≡ sheets
      sheets-are = ap (sheets_of read) from_is

      outs-are : outs_of read (lines (drop f.next s)) ≡ outs
      outs-are = ap (outs_of read) from_is

      n-is : n ≡ length sheets
      n-is = g.ends ∙ ap length sheets-are

      pub words_within : n ≤ length words
      words_within = omega (arith, g.few, ap length g.sheets, length-sets words₀ 0 (sheets_of read (lines (drop f.next s))))

      words_are : take n words ≡ sheets
      words_are =
          let e : words ≡ sheets ++ drop (length sheets) words₀
          = g.sheets
          ∙ ap (λ (l : List ℕ). sets words₀ 0 l) sheets-are
          ∙ sets_start words₀ sheets
          ∙ ap (λ (l : List ℕ). l ++ drop (length sheets) words₀) (take_all (length words₀) sheets (omega (arith, n-is, g.few))) in
          rw e (take_at sheets (drop (length sheets) words₀) n (sym n-is))

      counts-are : counts ≡ tallied outs (replicate numbers 0)
      counts-are = g.outs ∙ ap (λ (l : List ℕ). tallied l (replicate numbers 0)) outs-are

      counts-length : length counts ≡ numbers
      counts-length = g.long

      module _ {table₀ table : List ℕ} {t : Tallied} (given : IsTallied (take most_words (take n words)) table₀ table t) where
        i : IsTallied sheets table₀ table t
        i =
            let e : take most_words (take n words) ≡ sheets
            = ap (take most_words) words_are ∙ take_all most_words sheets (omega (arith, n-is, g.few)) in
            rw e at given

        left-n : t.left ≤ n
        left-n = omega (arith, i.left, few-left sheets, n-is)

        pub left_few : t.left ≤ longest_input
        left_few = omega (arith, left-n, g.few)

        pub weeks_within : length table₀ ≡ table_length → t.weeks ≤ length table
        weeks_within size = within i (table_size i size)

        pub small : Small (take t.weeks table)
        small = rw (front i) (table_small (length sheets) (tallies_of sheets).weeks (omega (arith, n-is, g.few)) (good sheets).most)

        -- whichever count is raised by those that are left out
        pub sum_fits : (k : ℕ) → get_or counts k 0 + t.left < 2 ^ 32
        sum_fits k = omega (arith, at_most_sum counts k, left-n, g.few)

        pub counts_fit : (k : ℕ) → k < numbers
            → (length (set counts k (get_or counts k 0 + t.left)) < 65536) × (sum_of (set counts k (get_or counts k 0 + t.left)) < 65536)
        counts_fit k h =
            let ns = replicate t.left k in
            let l : k < length counts = omega (arith, counts-length) in
            let z = tallied_sum ns counts (below_same (length counts) k t.left l) in
            rw (tallied_same k t.left counts l) (
              omega (arith, tallied_length ns counts, counts-length),
              omega (arith, z, length-replicate t.left k, left-n, g.few),
            )

        then-counts : set counts no_room (get_or counts no_room 0 + t.left)
            ≡ tallied (outs ++ replicate (tallies_of sheets).left no_room) (replicate numbers 0)
        then-counts =
            tallied_same no_room t.left counts (omega (arith, counts-length))
            ∙ rw (counts-are, i.left) (sym (tallied_append outs (replicate (tallies_of sheets).left no_room) (replicate numbers 0)))

        all-below : Below numbers (outs ++ replicate (tallies_of sheets).left no_room)
        all-below =
            below_append numbers outs (replicate (tallies_of sheets).left no_room)
            (outs_below read (read_below f.opened es) (texts s)) (below_same numbers no_room (tallies_of sheets).left (lit< tt))

        then-length : length (outs ++ replicate (tallies_of sheets).left no_room) ≤ longest_input
        then-length =
            let z = tallied_sum outs (replicate numbers 0) (outs_below read (read_below f.opened es) (texts s)) in
            let e : sum_of counts ≡ length outs = ap sum_of counts-are ∙ z ∙ (unfold sum_of in omega arith) in
            omega (
              arith,
              e,
              length-append outs (replicate (tallies_of sheets).left no_room),
              length-replicate (tallies_of sheets).left no_room,
              i.left,
              left-n,
              g.few,
            )

        pub done : ((k : ℕ) → get_or s k 0 < 256) → most_elements ≤ length room → most_elements ≤ length es → 65536 ≤ length before
            → {first middle last : Writer} {after : List ℕ} → first.out.now ≡ between → first.at ≡ 0
            → Writes (table_shown (take t.weeks table)) first middle
            → Writes (left_shown (set counts no_room (get_or counts no_room 0 + t.left))) middle last
            → after ≡ last.out.now → Reported (week_report_of s) before after last.at
        unfolding weeks_and_left
        done are_bytes h k l {last = last} {after} same front-is p q back =
            let ts = (tallies_of sheets).weeks in
            let ns = outs ++ replicate (tallies_of sheets).left no_room in
            let e = whole s short (reads_alike b are_bytes h k) in
            let lines_are : table_shown (take t.weeks table) ≡ week_lines ts
            = ap table_shown (front i) ∙ table_lines (length sheets) ts (omega (arith, n-is, g.few)) (good sheets).most in
            let left_is : left_shown (set counts no_room (get_or counts no_room 0 + t.left)) ≡ left_out ns
            = ap left_shown then-counts ∙ left_lines ns all-below in
            let none : f.count ≡ 0 = omega (arith, begun.ends) in
            let both : Put (week_lines ts ++ left_out ns) between 0 after last.at
            = given_back (then (rw lines_are at p) (rw left_is at q)) same front-is back in
            let put = puts.then (rw none at begun) both in
            let m = weeks_most (length sheets) ts (omega (arith, n-is, g.few)) (good sheets).most in
            rw e
            (reported put
            (omega (arith, length-append (week_lines ts) (left_out ns), m, (good sheets).few, left_most ns (omega (arith, then-length)))))
