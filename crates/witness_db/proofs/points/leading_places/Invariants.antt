use Rattle.std.proofs.Common.{◌≡◌}
use Rattle.witness_db.specs.Leading.{leading_places}
use Rattle.witness_db.proofs.points.leading_places.Given as goal

abbrev pub invariant-loop-node : goal.invariant-loop-node
invariant-loop-node l = l.leading ≡ leading_places l.terms l.places l.node
