use Rattle.std.proofs.Common.{◌≡◌, map, take}
use Rattle.proof_cert.specs.inner.Paths.{row_at}
use Rattle.proof_cert.proofs.writing.rows_of.Given as goal

abbrev pub invariant-loop-maker : goal.invariant-loop-maker
invariant-loop-maker l = l.rows ≡ map (row_at l.path.splits.items) (take l.maker-index l.makers)
