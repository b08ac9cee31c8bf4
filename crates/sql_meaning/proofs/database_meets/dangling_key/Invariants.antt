use Rattle.std.proofs.Common.{◌≡◌, drop}
use Rattle.std.specs.Prelude.{slice_get}
use Rattle.sql_meaning.specs.Violations.{numbered, dangling}
use Rattle.sql_meaning.proofs.database_meets.dangling_key.Given as goal

abbrev pub invariant-loop-number : goal.invariant-loop-number
invariant-loop-number l = slice_get (numbered (dangling l.database l.table) l.number (drop l.number l.keys)) 0 ≡ slice_get (numbered (dangling l.database l.table) 0 l.keys) 0
