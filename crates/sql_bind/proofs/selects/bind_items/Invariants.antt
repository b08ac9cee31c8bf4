use Rattle.std.proofs.Common.{◌≡◌, ◌++◌, length, Ok}
use Rattle.sql_bind.specs.Bound.{and_then}
use Rattle.sql_bind.specs.Selects.{bind_items}
use Rattle.sql_bind.specs.inner.Levels.{levels_seen}
use Rattle.sql_bind.proofs.selects.bind_items.Given as goal

abbrev pub invariant-loop-tree : goal.invariant-loop-tree
invariant-loop-tree l =
    and_then (bind_items l.tables l.entries (levels_seen l.outer) (length l.items) l.rest) (λ more. Ok (l.items ++ more))
    ≡ bind_items l.tables l.entries (levels_seen l.outer) 0 l.trees

abbrev pub decreases-loop-tree : goal.decreases-loop-tree
decreases-loop-tree l = length l.rest
