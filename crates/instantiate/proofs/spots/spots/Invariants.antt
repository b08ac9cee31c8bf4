use Rattle.std.proofs.Common.{◌≡◌, map, take}
use Rattle.instantiate.specs.inner.Flat.{node_of}
use Rattle.instantiate.specs.inner.Spots.{spot_of}
use Rattle.instantiate.proofs.spots.spots.Given as goal

abbrev pub invariant-loop-nodes : goal.invariant-loop-nodes
invariant-loop-nodes l = l.all ≡ map (map (spot_of l.order l.terms)) (map (map node_of) (take l.nodes-index l.outlines))
