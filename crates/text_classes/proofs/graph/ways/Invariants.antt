use Rattle.std.proofs.Common.{◌≡◌, length}
use Rattle.text_classes.specs.inner.Nodes.{AreWays}
use Rattle.text_classes.proofs.graph.ways.Given as goal

abbrev pub invariant-loop-number : goal.invariant-loop-number
invariant-loop-number l = record {
  count : length l.ways.items ≡ l.nodes;
  ways : AreWays l.links l.number l.ways.items;
}
