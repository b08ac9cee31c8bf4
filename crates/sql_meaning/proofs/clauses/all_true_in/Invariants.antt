use Rattle.std.proofs.Common.{◌≡◌, drop, map, ◌&&◌}
use Rattle.lint_core.specs.Condition.{truth}
use Rattle.lint_core.specs.Evaluation.{map_ok}
use Rattle.lint_core.specs.Question.{all_true}
use Rattle.sql_meaning.specs.Behind.{behind}
use Rattle.sql_meaning.specs.inner.Standing.{tables_of_levels, binding_of_levels}
use Rattle.sql_meaning.proofs.clauses.all_true_in.Given as goal

abbrev pub invariant-loop-cond : goal.invariant-loop-cond
invariant-loop-cond l =
    let truths = map (λ c. truth l.database c (tables_of_levels l.levels) (binding_of_levels l.levels)) in
    map_ok (λ b. l.all && b) (all_true (truths (behind (drop l.cond-index l.conds)))) ≡ all_true (truths (behind l.conds))
