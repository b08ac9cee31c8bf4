use Rattle.std.proofs.Common.{◌≡◌, drop, length}
use Rattle.lint_core.specs.Points.{are_rows}
use Rattle.sql_meaning.proofs.points.are_rows.Given as goal

abbrev pub invariant-loop-table : goal.invariant-loop-table
invariant-loop-table l = are_rows l.database (drop (length l.yielded) l.tables) (drop (length l.yielded) l.rows) ≡ are_rows l.database l.tables l.rows
