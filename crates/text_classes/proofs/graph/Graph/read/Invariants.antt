use Rattle.std.proofs.Common.{◌≡◌, ◌≤◌, ◌<◌, ◌+◌, ◌*◌, ℕ, length}
use Rattle.text_classes.specs.Paths.{fact_at}
use Rattle.text_classes.specs.inner.Nodes.{AreKept, AreWithin, IsLink, link_at}
use Rattle.text_classes.proofs.graph.Graph.read.Given as goal

abbrev pub invariant-loop-fact : goal.invariant-loop-fact
invariant-loop-fact l = record {
  kept : AreKept l.constants.places l.constants.texts.items;
  few : length l.constants.texts.items ≤ 2 * l.fact-index;
  count : length l.links.items ≡ l.fact-index;
  within : AreWithin (l.vars + length l.constants.texts.items) l.links.items;
  sides : (n : ℕ) → n < l.fact-index → IsLink l.vars l.constants.texts.items (fact_at l.facts n) (link_at l.links.items n);
}
