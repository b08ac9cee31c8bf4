use Rattle.std.proofs.Common.{◌≡◌, take}
use Rattle.sql_meaning.proofs.subqueries.tables_inside.Given as goal

abbrev pub invariant-loop-level : goal.invariant-loop-level
invariant-loop-level l = l.inside ≡ take l.level-index l.tables
