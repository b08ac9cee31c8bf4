use Rattle.std.proofs.Common.{◌+◌, ◌≤◌, length}
use Rattle.text_classes.specs.inner.Fresh.{HasByte}
use Rattle.text_classes.proofs.prefix.halve.Given as goal

abbrev pub invariant-loop-number : goal.invariant-loop-number
invariant-loop-number l = record {
  zeros : HasByte l.texts l.rest l.number-index l.depth 48 l.zeros.items;
  ones : HasByte l.texts l.rest l.number-index l.depth 49 l.ones.items;
  few : length l.zeros.items + length l.ones.items ≤ l.number-index;
}
