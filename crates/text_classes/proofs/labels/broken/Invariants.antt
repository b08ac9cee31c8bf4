use Rattle.text_classes.specs.inner.Forest.{AreApart}
use Rattle.text_classes.proofs.labels.broken.Given as goal

abbrev pub invariant-loop-number : goal.invariant-loop-number
invariant-loop-number l = AreApart l.links l.number l.forest
