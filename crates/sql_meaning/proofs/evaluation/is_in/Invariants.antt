use Rattle.std.proofs.Common.{◌≡◌, drop}
use Rattle.lint_core.specs.Condition.{in_truth}
use Rattle.lint_core.specs.Truth.{greatest}
use Rattle.sql_meaning.proofs.evaluation.is_in.Given as goal
use Rattle.sql_meaning.specs.inner.Seen.{value_of, values_of}

-- the truth so far, with that of the rest
abbrev pub invariant-loop-item : goal.invariant-loop-item
invariant-loop-item l =
    greatest l.truth (in_truth (value_of l.left) (values_of (drop l.item-index l.items)))
    ≡ in_truth (value_of l.left) (values_of l.items)
