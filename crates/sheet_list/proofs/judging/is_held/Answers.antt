-- `sheet_list::judging::is_held` meets its contract. Assumes nothing.
use Rattle.sheet_list.proofs.Holding.{not_held, no_list, by_table}
use mathlib.Core.Path.{sym, ◌∙◌}
use native.Mathlib.Omega.{arith}
use Rattle.std.proofs.lemmas.Bool.Decides.{nat_tests}
use Rattle.laws.proofs.Cases.{clash}
use Rattle.sheet_list.specs.Adding.{held}
use Rattle.sheet_list.proofs.judging.is_held.Goals.{then-weeks-table, else-weeks-table}
use Rattle.sheet_list.proofs.judging.is_held.Goals.{then-words-le-MOST_WORDS, else-words-le-MOST_WORDS}
use Rattle.sheet_list.proofs.judging.is_held.Goals.{then-count-words, else-count-words}
use Rattle.sheet_list.proofs.judging.is_held.Goals.{then-table-eq-TABLE_LENGTH, else-table-eq-TABLE_LENGTH}
use Rattle.sheet_list.proofs.judging.is_held.Goals as goal

pub returns-then-is_list : goal.returns-then-is_list
returns-then-is_list c =
    elim c.if-weeks-table.branch [
      | then-weeks-table w ↦
          c.is_table.ensures
          ∙ sym (by_table (held c.args.words.now c.args.count c.args.table.now c.args.weeks) (omega arith) (omega arith) (omega arith)
          (omega arith)
          (sym w.is_list.ensures ∙ sym w.value-is ∙ c.if-is_list.true))
      | else-weeks-table w ↦ clash cc
    ]

pub returns-else-is_list : goal.returns-else-is_list
returns-else-is_list c =
    elim c.if-weeks-table.branch [
      | then-weeks-table w ↦
          c.if-is_list.false ∙
          no_list (held c.args.words.now c.args.count c.args.table.now c.args.weeks)
          (sym w.is_list.ensures ∙ sym w.value-is ∙ c.if-is_list.false)
      | else-weeks-table w ↦
          c.if-is_list.false
          ∙ not_held (held c.args.words.now c.args.count c.args.table.now c.args.weeks) (λ v.
          elim c.if-table-eq-TABLE_LENGTH.branch [
            | then-table-eq-TABLE_LENGTH a ↦ grind (arith, nat_tests, v.size, v.inside)
            | else-table-eq-TABLE_LENGTH a ↦
                elim c.if-count-words.branch [
                  | then-count-words b ↦ grind (arith, nat_tests, v.size)
                  | else-count-words b ↦
                      elim c.if-words-le-MOST_WORDS.branch [
                        | then-words-le-MOST_WORDS d ↦ grind (arith, nat_tests, v.within)
                        | else-words-le-MOST_WORDS d ↦ grind (arith, nat_tests, v.short)
                      ]
                ]
          ])
    ]
