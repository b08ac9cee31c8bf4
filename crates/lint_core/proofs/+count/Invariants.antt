use Rattle.std.proofs.Common.{◌≡◌, ◌+◌, drop}
use Rattle.std.specs.List.{sum_by}
use Rattle.lint_core.specs.Fits.{count_conditions}
use Rattle.lint_core.proofs.+count.Given as goal

-- what the rest took away, and those that are left
abbrev pub invariant-fits::spend_all-loop-cond : goal.invariant-fits::spend_all-loop-cond
invariant-fits::spend_all-loop-cond l =
    l.rest + sum_by count_conditions l.conds ≡ l.left + sum_by count_conditions (drop l.cond-index l.conds)
