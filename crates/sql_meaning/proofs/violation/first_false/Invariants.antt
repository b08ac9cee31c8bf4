use Rattle.std.proofs.Common.{◌≡◌, [], ◌∷◌}
use Rattle.std.specs.List.{filter}
use Rattle.lint_core.specs.Condition.{is_false_at}
use Rattle.lint_core.specs.Database.{below}
use Rattle.sql_meaning.proofs.violation.first_false.Given as goal

abbrev pub invariant-loop-row : goal.invariant-loop-row
invariant-loop-row l = filter (λ row. is_false_at l.database l.check ((l.table ∷ []) ∷ []) ((row ∷ []) ∷ [])) (below l.row) ≡ []
