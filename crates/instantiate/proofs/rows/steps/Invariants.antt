use Rattle.std.proofs.Common.{◌≡◌, map}
use Rattle.lint_core.specs.Database.{below}
use Rattle.instantiate.specs.inner.Steps.{step_of}
use Rattle.instantiate.proofs.rows.steps.Given as goal

abbrev pub invariant-loop-number : goal.invariant-loop-number
invariant-loop-number l = l.steps ≡ map (step_of l.terms) (below l.number)
