use Rattle.std.proofs.Common.{length}
use Rattle.text_classes.specs.inner.Forest.{IsBetween}
use Rattle.text_classes.proofs.forest.Forest.grow.Given as goal

abbrev pub invariant-loop-root : goal.invariant-loop-root
invariant-loop-root l = IsBetween (length l.ways) l.links l.root l.forest
