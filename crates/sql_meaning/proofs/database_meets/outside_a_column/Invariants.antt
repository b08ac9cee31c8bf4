use Rattle.std.proofs.Common.{◌≡◌, drop}
use Rattle.std.specs.Prelude.{slice_get}
use Rattle.sql_meaning.specs.Violations.{numbered, outside}
use Rattle.sql_meaning.proofs.database_meets.outside_a_column.Given as goal

abbrev pub invariant-loop-number : goal.invariant-loop-number
invariant-loop-number l = slice_get (numbered (outside l.database l.table) l.number (drop l.number l.columns)) 0 ≡ slice_get (numbered (outside l.database l.table) 0 l.columns) 0
