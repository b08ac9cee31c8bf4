use Rattle.ground_theory.specs.inner.Joining.{IsRelabelled}
use Rattle.ground_theory.proofs.joining.relabel.Given as goal

abbrev pub invariant-loop-row : goal.invariant-loop-row
invariant-loop-row l = IsRelabelled l.fn.labels.items l.from l.to l.row l.labels.items
