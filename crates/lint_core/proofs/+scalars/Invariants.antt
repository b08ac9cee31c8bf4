use Rattle.std.proofs.Common.{◌≡◌, ◌+◌, drop}
use Rattle.std.specs.List.{sum_by}
use Rattle.lint_core.specs.inner.Counts.{count_scalars}
use Rattle.lint_core.proofs.+scalars.Given as goal

-- what the rest took away, and those that are left
abbrev pub invariant-counts::spend_all_scalars-loop-cond : goal.invariant-counts::spend_all_scalars-loop-cond
invariant-counts::spend_all_scalars-loop-cond l =
    l.rest + sum_by count_scalars l.conds ≡ l.left + sum_by count_scalars (drop l.cond-index l.conds)
