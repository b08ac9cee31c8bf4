use Rattle.std.proofs.Common.{◌≡◌, ◌+◌, drop}
use Rattle.std.specs.List.{sum_by}
use Rattle.lint_core.specs.inner.Counts.{count_predicates}
use Rattle.lint_core.proofs.+predicates.Given as goal

-- what the rest took away, and those that are left
abbrev pub invariant-counts::spend_all_predicates-loop-cond : goal.invariant-counts::spend_all_predicates-loop-cond
invariant-counts::spend_all_predicates-loop-cond l =
    l.rest + sum_by count_predicates l.conds ≡ l.left + sum_by count_predicates (drop l.cond-index l.conds)
