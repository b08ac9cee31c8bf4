use Rattle.std.proofs.Common.{◌≡◌, [], not}
use Rattle.std.specs.List.{filter}
use Rattle.lint_core.specs.Database.{below}
use Rattle.lint_core.specs.Domain.{is_in_domain}
use Rattle.lint_core.specs.Meets.{value_in}
use Rattle.sql_meaning.specs.Violations.{place}
use Rattle.sql_meaning.proofs.violation.first_outside.Given as goal

abbrev pub invariant-loop-row : goal.invariant-loop-row
invariant-loop-row l = filter (λ row. not (is_in_domain l.column.domain (value_in l.database (place l.database l.table row) l.number))) (below l.row) ≡ []
