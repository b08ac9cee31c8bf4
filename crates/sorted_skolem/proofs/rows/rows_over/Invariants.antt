use Rattle.std.proofs.Common.{◌≡◌}
use Rattle.std.specs.List.{filter}
use Rattle.lint_core.specs.Database.{below}
use Rattle.sorted_skolem.specs.Terms.{is_of_table}
use Rattle.sorted_skolem.proofs.rows.rows_over.Given as goal

abbrev pub invariant-loop-row : goal.invariant-loop-row
invariant-loop-row l = l.rows.items ≡ filter (is_of_table l.terms l.table) (below l.row)
