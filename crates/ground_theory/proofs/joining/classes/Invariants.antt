use Rattle.ground_theory.specs.inner.Joining.{IsFolded}
use Rattle.ground_theory.proofs.joining.classes.Given as goal

abbrev pub invariant-loop-same : goal.invariant-loop-same
invariant-loop-same l = IsFolded l.rows l.sames l.same-index l.joining.labels.items l.joining.by.items
