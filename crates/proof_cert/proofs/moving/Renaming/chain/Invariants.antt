use Rattle.std.proofs.Common.{◌≡◌, map, take}
use Rattle.ground_theory.specs.Moving.{moved_text}
use Rattle.proof_cert.specs.inner.Leaves.{fact_in, row_in}
use Rattle.proof_cert.proofs.moving.Renaming.chain.Given as goal

abbrev pub invariant-loop-edge : goal.invariant-loop-edge
invariant-loop-edge l = l.chain ≡ map (moved_text (fact_in l.self) (row_in l.self)) (take l.edge-index l.edges)
