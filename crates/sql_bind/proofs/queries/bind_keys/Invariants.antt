use Rattle.std.proofs.Common.{◌≡◌, ◌++◌, length, Ok}
use Rattle.sql_bind.specs.Bound.{and_then}
use Rattle.sql_bind.specs.Queries.{bind_keys}
use Rattle.sql_bind.proofs.queries.bind_keys.Given as goal

abbrev pub invariant-loop-tree : goal.invariant-loop-tree
invariant-loop-tree l = and_then (bind_keys l.tables l.select l.rest) (λ more. Ok (l.keys ++ more)) ≡ bind_keys l.tables l.select l.trees

abbrev pub decreases-loop-tree : goal.decreases-loop-tree
decreases-loop-tree l = length l.rest
