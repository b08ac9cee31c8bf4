use Rattle.std.proofs.Common.{◌≡◌, drop, length}
use Rattle.lint_core.specs.Points.{is_same_binding}
use Rattle.sql_meaning.proofs.points.is_same_binding.Given as goal

abbrev pub invariant-loop-rows : goal.invariant-loop-rows
invariant-loop-rows l = is_same_binding (drop (length l.yielded) l.binding) (drop (length l.yielded) l.other) ≡ is_same_binding l.binding l.other
