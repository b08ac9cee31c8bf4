use Rattle.std.proofs.Common.{◌≡◌, ◌∙◌, ap, sym, refl, subst, true, suc, length, ◌≤◌, ◌<◌, ◌^◌, List}
use Rattle.std.specs.Prelude.{All}
use Rattle.lint_core.specs.Database.{below}
use Rattle.instantiate.proofs.TermLists.{length_below}
use Rattle.sort_formula.specs.declared.formula.Formula.{Formula}
use Rattle.sort_formula.specs.Sentences.{is_sentence}
use Rattle.sorted_skolem.specs.declared.term.Rows.{Rows}
use Rattle.sorted_skolem.specs.Graph.{IsOrder}
use Rattle.lint_engine.specs.Limits.{HaveFewNodes}
use Rattle.lint_engine.proofs.Ready.{ready_from}
use Rattle.lint_engine.proofs.problem.problem_of.Goals as goal

pub grounded-requires-clause-numbers : goal.grounded-requires-clause-numbers
grounded-requires-clause-numbers c =
    ap length (c.in_ok-numbers.ensures.numbers ∙ ap (λ (ss : List Formula). below (suc (length ss))) c.as_slice-5.ensures) ∙ length_below (suc (length c.args.sentences))

pub returns-clause-problem : goal.returns-clause-problem
returns-clause-problem c =
    let ss = c.args.sentences in
    let schema = c.args.schema.now in
    let made = c.in_ok-problem.ensures in
    ready_from schema ss c.in_ok-problem.problem c.tables.ensures.schema made.problem made.sentences
    (made.numbers ∙ (c.in_ok-numbers.ensures.numbers ∙ ap (λ (ss : List Formula). below (suc (length ss))) c.as_slice-5.ensures))
    made.few
    (subst (λ (r : Rows). length r.terms ≤ 512) (sym made.rows) c.in_ok-rows.ensures.few)
    (subst (λ (ss : List Formula). length ss < 2 ^ 31) c.as_slice-5.ensures c.in_ok-numbers.ensures.few)
    (subst (All (λ (s : Formula). is_sentence s ≡ true)) c.as_slice.ensures c.formulas_are_sentences.ensures)
    c.requires
    (subst HaveFewNodes c.as_slice-3.ensures (c.if-not-have_few_nodes.ensures.few refl))
    (c.orders_exclude_cycles.ensures ss c.in_ok-order.order.tables (subst (λ (ss : List Formula). IsOrder ss c.in_ok-order.order.tables) c.as_slice-2.ensures c.in_ok-order.ensures.order))
