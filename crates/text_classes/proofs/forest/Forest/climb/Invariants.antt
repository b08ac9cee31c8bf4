use Rattle.std.proofs.Common.{◌≡◌, Some}
use Rattle.text_classes.specs.inner.Nodes.{LeadsIn}
use Rattle.text_classes.specs.inner.Forest.{place_of, class_in}
use Rattle.text_classes.proofs.forest.Forest.climb.Given as goal

abbrev pub invariant-loop-number : goal.invariant-loop-number
invariant-loop-number l = record {
  place_is : place_of l.self.places.items l.at ≡ Some l.place;
  way : LeadsIn l.links l.node l.chain.items l.at;
  same : class_in l.self l.node ≡ class_in l.self l.at;
}

-- each link leads to a node that was met before
abbrev pub decreases-loop-number : goal.decreases-loop-number
decreases-loop-number l = l.place
