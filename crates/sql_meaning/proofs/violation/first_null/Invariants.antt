use Rattle.std.proofs.Common.{◌≡◌, [], ◌&&◌}
use Rattle.std.specs.List.{filter}
use Rattle.lint_core.specs.Comparison.{is_null}
use Rattle.lint_core.specs.Database.{below}
use Rattle.lint_core.specs.Meets.{value_in}
use Rattle.sql_meaning.specs.Violations.{place}
use Rattle.sql_meaning.proofs.violation.first_null.Given as goal

abbrev pub invariant-loop-row : goal.invariant-loop-row
invariant-loop-row l = filter (λ row. l.column.not_null && is_null (value_in l.database (place l.database l.table row) l.number)) (below l.row) ≡ []
