use Rattle.std.proofs.Common.{◌≡◌, drop, length}
use Rattle.lint_core.specs.Points.{is_binding}
use Rattle.sql_meaning.proofs.points.is_binding.Given as goal

abbrev pub invariant-loop-tables : goal.invariant-loop-tables
invariant-loop-tables l = is_binding l.database (drop (length l.yielded) l.tables) (drop (length l.yielded) l.levels) ≡ is_binding l.database l.tables l.levels
