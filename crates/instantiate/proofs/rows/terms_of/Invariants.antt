use Rattle.std.proofs.Common.{◌≡◌}
use Rattle.std.specs.List.{filter}
use Rattle.lint_core.specs.Database.{below}
use Rattle.sorted_skolem.specs.Terms.{is_of_table}
use Rattle.instantiate.proofs.rows.terms_of.Given as goal

abbrev pub invariant-loop-number : goal.invariant-loop-number
invariant-loop-number l = l.rows ≡ filter (is_of_table l.terms l.table) (below l.number)
