use Rattle.std.proofs.Common.{◌≡◌, map, take}
use Rattle.ground_theory.specs.declared.literal.Guard.{Guard}
use Rattle.proof_cert.specs.inner.Paths.{fact_at}
use Rattle.proof_cert.proofs.writing.facts_of.Given as goal

abbrev pub invariant-loop-guard : goal.invariant-loop-guard
invariant-loop-guard l = l.facts ≡ map (λ (g : Guard). fact_at l.path.splits.items g.clause) (take l.guard-index l.guards)
