use Rattle.std.proofs.Common.{◌≡◌, [], length}
use Rattle.sql_bind.specs.inner.Levels.{levels_seen}
use Rattle.sql_bind.proofs.Values.{values_after}
use Rattle.sql_bind.proofs.predicates.bind_values.Given as goal

abbrev pub invariant-loop-tree : goal.invariant-loop-tree
invariant-loop-tree l = values_after l.tables (levels_seen l.levels) l.values l.rest ≡ values_after l.tables (levels_seen l.levels) [] l.trees

abbrev pub decreases-loop-tree : goal.decreases-loop-tree
decreases-loop-tree l = length l.rest
