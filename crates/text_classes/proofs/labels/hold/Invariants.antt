use Rattle.text_classes.specs.inner.Fresh.{AreHeld}
use Rattle.text_classes.proofs.labels.hold.Given as goal

abbrev pub invariant-loop-node : goal.invariant-loop-node
invariant-loop-node l = AreHeld l.vars l.node l.forest l.held.items
