-- `sheet_list::adding::add_all` meets its contract. Assumes nothing.
use Rattle.sheet_list.proofs.Loop.{adding_start, adding_stops, adding_goes, adding_ends, index_then, chunk_is}
use Rattle.sheet_list.specs.Adding.{sheet_words, sheet_at}
use Rattle.sheets.specs.Sheets.{words_fields}
use native.Mathlib.Omega.{arith}
use lib.ListN.{length, get_or}
use mathlib.Core.List.{List, []}
use mathlib.Core.Path.{◌≡◌, refl, sym, ap, ◌∙◌}
use Prim.Native.Nat.{ℕ, ◌/◌}
use Rattle.sheet_list.proofs.adding.add_all.Goals.{After-words_fields}
use Rattle.sheet_list.proofs.adding.add_all.Goals as goal

-- the chunk is the sheet whose turn it is
sheet : (c : After-words_fields) → c.words_fields.result ≡ sheet_at c.args.sheets.now c.loop-sheet.added.index
sheet c =
    let l = c.loop-sheet in
    let s = c.args.sheets.now in
    c.words_fields.ensures
    ∙ ap (λ (xs : List (List ℕ)). words_fields (get_or xs l.sheet-index [])) c.as_chunks.ensures.front
    ∙ chunk_is l.sheet-index (length s / sheet_words) s (omega (arith, c.as_chunks.ensures.front_len)) (omega arith)
    ∙ ap (sheet_at s) (sym l.invariant.0)

pub loop-sheet-init : goal.loop-sheet-init
loop-sheet-init c = (refl, adding_start _ _)

pub returns-then-is_some : goal.returns-then-is_some
returns-then-is_some c =
    let s = sheet (goal.at.returns-then-is_some c).After-words_fields in
    adding_stops _ _ c.loop-sheet.invariant.1 (omega (arith, c.as_chunks.ensures.front_len)) _ s c.add_sheet-added.ensures
    (sym c.is_some.ensures ∙ c.if-is_some.true)

pub loop-sheet-preserved : goal.loop-sheet-preserved
loop-sheet-preserved c =
    let v = c.loop-sheet.invariant.1 in
    let s = sheet (goal.at.loop-sheet-preserved c).After-words_fields in (
      omega (
        arith,
        index_then _ _ v (omega (arith, c.as_chunks.ensures.front_len)) _ s c.add_sheet-added.ensures
            (sym c.is_some.ensures ∙ c.if-is_some.false),
      ),
      adding_goes _ _ v (omega (arith, c.as_chunks.ensures.front_len)) _ s c.add_sheet-added.ensures
          (sym c.is_some.ensures ∙ c.if-is_some.false),
    )

pub returns : goal.returns
returns c = adding_ends _ _ c.loop-sheet.invariant.1 (omega (arith, c.as_chunks.ensures.front_len))
