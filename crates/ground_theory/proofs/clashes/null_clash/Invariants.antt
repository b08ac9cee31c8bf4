use Rattle.ground_theory.specs.inner.Clashes.{AreFirm}
use Rattle.ground_theory.proofs.clashes.null_clash.Given as goal

abbrev pub invariant-loop-firm : goal.invariant-loop-firm
invariant-loop-firm l = AreFirm l.labels l.nulls l.firms l.firm-index
