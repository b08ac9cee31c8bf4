use Rattle.ground_theory.specs.inner.Clashes.{AreApart}
use Rattle.ground_theory.proofs.clashes.parted.Given as goal

abbrev pub invariant-loop-other : goal.invariant-loop-other
invariant-loop-other l = AreApart l.labels l.others l.other-index
