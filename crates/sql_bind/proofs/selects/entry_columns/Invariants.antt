use Rattle.std.proofs.Common.{◌≡◌, ◌++◌, drop}
use Rattle.sql_bind.specs.Names.{columns_of}
use Rattle.sql_bind.specs.Selects.{column_items}
use Rattle.sql_bind.proofs.selects.entry_columns.Given as goal

abbrev pub invariant-loop-column : goal.invariant-loop-column
invariant-loop-column l = l.items ++ column_items l.tables l.level l.number l.at l.column (drop l.column l.columns) ≡ column_items l.tables l.level l.number l.at 0 l.columns
