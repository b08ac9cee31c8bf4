use Rattle.std.proofs.Common.{◌∙◌, ap, sym, length}
use Rattle.std.specs.List.{filter}
use Rattle.lint_core.specs.Database.{below}
use Rattle.sorted_skolem.specs.declared.term.RowTerm.{RowTerm}
use Rattle.sorted_skolem.specs.Terms.{is_of_table}
use Rattle.instantiate.proofs.TermLists.{steps_more}
use Rattle.instantiate.proofs.rows.steps.Goals as goal

pub loop-number-preserved : goal.loop-number-preserved
loop-number-preserved c =
    let terms = c.args.terms.now in
    let n = c.loop-number.number in
    let tabled = sym (ap (λ (t : RowTerm). t.table) c.index-terms-number.is) in
    c.in_ok-push.ensures.ok
    ∙ steps_more terms c.index-terms-number.result.table n c.index-terms-number.result c.loop-number-test.true c.index-terms-number.is c.loop-number.steps _ _
    c.loop-number.invariant
    (c.count_of_table.ensures ∙ ap (λ t. length (filter (is_of_table terms t) (below n))) tabled)
    (c.count_of_table-in-loop-number.ensures ∙ ap (λ t. length (filter (is_of_table terms t) (below (length terms)))) tabled)
