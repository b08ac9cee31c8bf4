use Rattle.std.proofs.Common.{◌≡◌, map, take}
use Rattle.ground_theory.specs.inner.Paths.{join_fact}
use Rattle.ground_theory.proofs.paths.facts.Given as goal

abbrev pub invariant-loop-join : goal.invariant-loop-join
invariant-loop-join l = l.facts.items ≡ map join_fact (take l.join-index l.joins)
