use Rattle.std.proofs.Common.{◌≡◌, map, take}
use Rattle.ground_theory.specs.Moving.{moved_sum}
use Rattle.proof_cert.specs.inner.Leaves.{fact_in, row_in}
use Rattle.proof_cert.proofs.moving.Renaming.ring.Given as goal

abbrev pub invariant-loop-edge : goal.invariant-loop-edge
invariant-loop-edge l = l.ring ≡ map (moved_sum (fact_in l.self) (row_in l.self)) (take l.edge-index l.edges)
