use Rattle.std.proofs.Common.{◌≡◌, [], drop}
use Rattle.sql_bind.specs.Columns.{bind_outlines}
use Rattle.sql_bind.proofs.outlines.bind_outlines.Given as goal

abbrev pub invariant-loop-tree : goal.invariant-loop-tree
invariant-loop-tree l = bind_outlines l.outlines (drop l.tree-index l.trees) ≡ bind_outlines [] l.trees
