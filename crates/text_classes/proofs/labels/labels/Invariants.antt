use Rattle.std.proofs.Common.{◌≡◌, ◌<◌, ℕ, Some, length}
use Rattle.text_classes.specs.inner.Nodes.{number_at}
use Rattle.text_classes.specs.inner.Forest.{class_in}
use Rattle.text_classes.proofs.labels.labels.Given as goal

abbrev pub invariant-loop-node : goal.invariant-loop-node
invariant-loop-node l = record {
  count : length l.labels.items ≡ l.node;
  each : (k : ℕ) → k < l.node → class_in l.forest k ≡ Some (number_at l.labels.items k);
}
