use Rattle.std.proofs.Common.{◌≡◌, ◌+◌, drop}
use Rattle.std.specs.List.{sum_by}
use Rattle.lint_core.specs.inner.Counts.{count_not_ins}
use Rattle.lint_core.proofs.+not_ins.Given as goal

-- what the rest took away, and those that are left
abbrev pub invariant-counts::spend_all_not_ins-loop-cond : goal.invariant-counts::spend_all_not_ins-loop-cond
invariant-counts::spend_all_not_ins-loop-cond l =
    l.rest + sum_by count_not_ins l.conds ≡ l.left + sum_by count_not_ins (drop l.cond-index l.conds)
