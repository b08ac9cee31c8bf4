use Rattle.std.proofs.Common.{◌<◌, ◌≤◌, ◌+◌, ◌-◌, ℕ, length}
use Rattle.text_classes.specs.inner.Forest.{IsPlaced, IsFilling}
use Rattle.text_classes.proofs.forest.Forest.fill.Given as goal

abbrev pub invariant-loop-place : goal.invariant-loop-place
invariant-loop-place l = record {
  filling : IsFilling (length l.ways) l.links l.place l.class l.self;
  early : l.place ≤ length l.self.order.items;
  below : (node : ℕ) → node < l.root + 1 → IsPlaced l.self.places.items node;
  few : l.self.classes ≤ l.root + 1;
}

abbrev pub decreases-loop-place : goal.decreases-loop-place
decreases-loop-place l = length l.ways - l.place
