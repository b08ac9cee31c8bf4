use Rattle.std.proofs.Common.{◌≡◌, ◌++◌, drop}
use Rattle.std.specs.List.{flat_map}
use Rattle.sorted_skolem.specs.inner.Waiting.{edges_at}
use Rattle.sorted_skolem.proofs.edges.edges_of.Given as goal

abbrev pub invariant-loop-ask : goal.invariant-loop-ask
invariant-loop-ask l = l.edges.items ++ flat_map (edges_at l.live) (drop l.ask-index l.asks) ≡ flat_map (edges_at l.live) l.asks
