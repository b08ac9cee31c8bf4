use Rattle.std.proofs.Common.{◌≡◌, take}
use Rattle.ground_theory.specs.Moving.{moved_path}
use Rattle.proof_cert.specs.inner.Leaves.{fact_in, row_in}
use Rattle.proof_cert.proofs.moving.Renaming.path.Given as goal

abbrev pub invariant-loop-edge : goal.invariant-loop-edge
invariant-loop-edge l = l.path ≡ moved_path (fact_in l.self) (row_in l.self) (take l.edge-index l.edges)
