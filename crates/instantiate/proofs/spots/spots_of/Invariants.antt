use Rattle.std.proofs.Common.{◌≡◌, map, take}
use Rattle.instantiate.specs.inner.Flat.{node_of}
use Rattle.instantiate.specs.inner.Spots.{spot_of}
use Rattle.instantiate.proofs.spots.spots_of.Given as goal

abbrev pub invariant-loop-node : goal.invariant-loop-node
invariant-loop-node l = l.spots ≡ map (spot_of l.order l.terms) (map node_of (take l.node-index l.nodes))
