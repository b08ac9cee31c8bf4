use Rattle.std.proofs.Common.{◌≡◌}
use Rattle.sql_bind.specs.Schemas.{bind_tables}
use Rattle.sql_bind.proofs.Tables.{tables_rest}
use Rattle.sql_bind.proofs.foreign.Declared.bind_tables.Given as goal

abbrev pub invariant-loop-number : goal.invariant-loop-number
invariant-loop-number l = tables_rest l.self.outlines.now l.self.trees.now l.tables l.number ≡ bind_tables l.self.outlines.now l.self.trees.now 0 l.self.outlines.now l.self.trees.now
