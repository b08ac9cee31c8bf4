use Rattle.std.proofs.Common.{◌≡◌, ◌++◌, drop, map}
use Rattle.sort_formula.specs.Translation.{is_true_formula}
use Rattle.sql_meaning.specs.Behind.{behind}
use Rattle.error_reductions.proofs.joins.each_true.Given as goal

abbrev pub invariant-loop-cond : goal.invariant-loop-cond
invariant-loop-cond l =
    let formulas = map (λ c. is_true_formula l.schema c l.scope) in
    l.parts ++ formulas (behind (drop l.cond-index l.conds)) ≡ formulas (behind l.conds)
