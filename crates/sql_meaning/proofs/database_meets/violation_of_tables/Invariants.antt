use Rattle.std.proofs.Common.{◌≡◌, drop}
use Rattle.std.specs.Prelude.{slice_get}
use Rattle.sql_meaning.specs.Violations.{numbered, table_violations, first_violation}
use Rattle.sql_meaning.proofs.database_meets.violation_of_tables.Given as goal

abbrev pub invariant-loop-number : goal.invariant-loop-number
invariant-loop-number l = slice_get (numbered (table_violations l.database) l.number (drop l.number l.tables)) 0 ≡ first_violation l.tables l.database
