use Rattle.std.proofs.Common.{◌∙◌, ◌∷◌, [], ap, sym, length, arith}
use Rattle.std.proofs.lemmas.List.{length-append}
use Rattle.std.specs.List.{filter}
use Rattle.lint_core.specs.Database.{below}
use Rattle.sorted_skolem.specs.declared.term.RowTerm.{RowTerm}
use Rattle.sorted_skolem.specs.Terms.{is_of_table}
use Rattle.instantiate.proofs.TermLists.{few_of_table, filter_added, filter_same}
use Rattle.instantiate.proofs.rows.count_of_table.Goals as goal
use Rattle.instantiate.proofs.rows.count_of_table.Goals.{then-terms-number, else-terms-number}

pub overflow_add-count : goal.overflow_add-count
overflow_add-count c =
    let few = few_of_table c.args.terms.now c.args.table c.loop-number.number in
    let inv = c.loop-number.invariant in
    let low = c.loop-number-test.true in
    omega arith

pub loop-number-preserved : goal.loop-number-preserved
loop-number-preserved c =
    let inv = c.loop-number.invariant in
    let terms = c.args.terms.now in
    let test = is_of_table terms c.args.table in
    let n = c.loop-number.number in
    let tabled = ap (λ (t : RowTerm). t.table) c.index-terms-number.is in
    elim c.if-terms-number.branch [
      | then-terms-number w ↦
          let more = ap length (filter_added terms c.args.table n c.index-terms-number.result (omega arith) c.index-terms-number.is (tabled ∙ w.if-terms-number.true)) in
          let size = length-append (filter test (below n)) (n ∷ []) in
          let now = w.count-is in
          omega arith
      | else-terms-number w ↦
          w.count-is ∙ (inv ∙ sym (ap length (filter_same terms c.args.table n c.index-terms-number.result (omega arith) c.index-terms-number.is (λ e. w.if-terms-number.false (sym tabled ∙ e)))))
    ]
