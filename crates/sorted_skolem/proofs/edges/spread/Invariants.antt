use Rattle.std.proofs.Common.{◌≡◌, ◌<◌, ◌≤◌, ℕ, true, false}
use Rattle.sorted_skolem.specs.inner.Waiting.{AreSound, IsClosedAt, missing}
use Rattle.sorted_skolem.proofs.edges.spread.Given as goal

abbrev pub invariant-loop-ask : goal.invariant-loop-ask
invariant-loop-ask l = record {
  sound : AreSound l.asks l.live.items;
  closed : l.more ≡ false → (place : ℕ) → place < l.ask-index → IsClosedAt l.asks l.live.items place;
  least : missing l.asks l.live.items ≤ missing l.asks l.initial.live.items;
  fewer : l.more ≡ true → missing l.asks l.live.items < missing l.asks l.initial.live.items;
}
