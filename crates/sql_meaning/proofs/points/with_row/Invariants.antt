use Rattle.std.proofs.Common.{◌≡◌, ◌++◌, drop}
use Rattle.sql_meaning.proofs.points.with_row.Given as goal

abbrev pub invariant-loop-other : goal.invariant-loop-other
invariant-loop-other l = l.rows.items ++ drop l.other-index l.other-items ≡ l.other-items

abbrev pub invariant-loop-other-2 : goal.invariant-loop-other-2
invariant-loop-other-2 l = l.rows.items ++ drop l.other-index l.other-items ≡ l.initial.rows.items ++ l.other-items
