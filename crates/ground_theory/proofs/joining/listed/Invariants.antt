use Rattle.ground_theory.specs.inner.Joining.{AreThere}
use Rattle.ground_theory.proofs.joining.listed.Given as goal

abbrev pub invariant-loop-place : goal.invariant-loop-place
invariant-loop-place l = AreThere l.by l.place-index l.all.items
