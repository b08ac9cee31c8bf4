use Rattle.std.proofs.Common.{◌≡◌, []}
use Rattle.std.specs.List.{flat_map}
use Rattle.lint_core.specs.Database.{below}
use Rattle.lint_core.specs.declared.database.Violation.TheVariants.{Twice}
use Rattle.sql_meaning.specs.Violations.{at_rows, is_twin}
use Rattle.sql_meaning.proofs.violation.first_twice.Given as goal

abbrev pub invariant-loop-row : goal.invariant-loop-row
invariant-loop-row l = flat_map (λ row. at_rows l.database l.table (is_twin l.database l.table l.key row) (λ other. Twice l.table l.number row other)) (below l.row) ≡ []
