use Rattle.std.proofs.Common.{◌≡◌, [], length, map}
use Rattle.sql_bind.specs.Selects.{bind_entries}
use Rattle.sql_bind.specs.inner.Meanings.{entry_meaning}
use Rattle.sql_bind.proofs.selects.bind_entries.Given as goal

abbrev pub invariant-loop-tree : goal.invariant-loop-tree
invariant-loop-tree l = bind_entries l.tables l.entries (map (entry_meaning l.tables) l.rest) ≡ bind_entries l.tables [] (map (entry_meaning l.tables) l.trees)

abbrev pub decreases-loop-tree : goal.decreases-loop-tree
decreases-loop-tree l = length l.rest
