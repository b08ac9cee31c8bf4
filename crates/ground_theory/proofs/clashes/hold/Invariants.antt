use Rattle.ground_theory.specs.inner.Clashes.{AreNulls}
use Rattle.ground_theory.proofs.clashes.hold.Given as goal

abbrev pub invariant-loop-null : goal.invariant-loop-null
invariant-loop-null l = AreNulls l.labels l.nulls l.null-index l.held.items
