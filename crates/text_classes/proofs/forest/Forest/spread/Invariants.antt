use Rattle.std.proofs.Common.{◌≡◌, ◌<◌, ℕ, Some, length}
use Rattle.text_classes.specs.inner.Nodes.{link_at, other_end, number_at}
use Rattle.text_classes.specs.inner.Forest.{visit_at, class_in, IsFilling, Extends}
use Rattle.text_classes.proofs.forest.Forest.spread.Given as goal

abbrev pub invariant-loop-number : goal.invariant-loop-number
invariant-loop-number l =
    let at = visit_at l.fn.self.order.items l.place in
    record {
      node_is : l.node ≡ at.node;
      filling : IsFilling (length l.ways) l.links l.place at.class l.self;
      extends : Extends l.fn.self l.self;
      met : (k : ℕ) → k < l.number-index → class_in l.self (other_end (link_at l.links (number_at l.number-items k)) at.node) ≡ Some at.class;
    }
