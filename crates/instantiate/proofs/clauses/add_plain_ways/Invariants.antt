use Rattle.std.proofs.Common.{◌≡◌, ◌++◌}
use Rattle.std.specs.Prelude.{None, replicate}
use Rattle.instantiate.proofs.clauses.add_plain_ways.Given as goal

abbrev pub invariant-loop-number : goal.invariant-loop-number
invariant-loop-number l = l.ways ≡ l.initial.ways ++ replicate l.number None
