use Rattle.std.proofs.Common.{◌≡◌, drop}
use Rattle.std.specs.Prelude.{slice_get}
use Rattle.sql_meaning.specs.Violations.{numbered, false_checks}
use Rattle.sql_meaning.proofs.database_meets.false_check.Given as goal

abbrev pub invariant-loop-number : goal.invariant-loop-number
invariant-loop-number l = slice_get (numbered (false_checks l.database l.table) l.number (drop l.number l.checks)) 0 ≡ slice_get (numbered (false_checks l.database l.table) 0 l.checks) 0
