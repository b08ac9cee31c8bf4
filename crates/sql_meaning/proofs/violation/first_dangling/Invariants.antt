use Rattle.std.proofs.Common.{◌≡◌, []}
use Rattle.std.specs.List.{filter}
use Rattle.lint_core.specs.Database.{below}
use Rattle.sql_meaning.specs.Violations.{refers_to_nothing}
use Rattle.sql_meaning.proofs.violation.first_dangling.Given as goal

abbrev pub invariant-loop-row : goal.invariant-loop-row
invariant-loop-row l = filter (refers_to_nothing l.database l.table l.key) (below l.row) ≡ []
