use Rattle.std.proofs.Common.{◌≡◌, []}
use Rattle.std.specs.List.{filter}
use Rattle.lint_core.specs.Database.{below}
use Rattle.sql_meaning.specs.Violations.{is_twin}
use Rattle.sql_meaning.proofs.violation.twin_of.Given as goal

abbrev pub invariant-loop-other : goal.invariant-loop-other
invariant-loop-other l = filter (is_twin l.database l.table l.key l.row) (below l.other) ≡ []
