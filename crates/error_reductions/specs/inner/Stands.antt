-- Conditions that can all stand at one scope, and a subquery whose condition can stand at two of its rows. Nothing
-- here has to be believed: no public contract says it.
use Rattle.std.specs.Prelude.{List}
use Rattle.std.specs.List.{AllByRecursion}
use Rattle.lint_core.specs.declared.condition.Cond.{Cond}
use Rattle.lint_core.specs.declared.schema.Table.{Table}
use Rattle.lint_core.specs.declared.scope.Scope.{Scope}
use Rattle.lint_core.specs.Subqueries.{Subquery}
use Rattle.sort_formula.specs.Counters.{deeper, first_scope, second_scope}
use Rattle.truth_formula.specs.Scopes.{CanStand}

abbrev pub AllStand : List Table → Scope → List Cond → Type 0
AllStand schema scope conds = AllByRecursion (λ c. CanStand schema c scope) conds

pub record TwoStand (schema : List Table) (sub : Subquery) : Type 0 where
  pub first : CanStand schema sub.cond (deeper schema sub (first_scope schema sub))
  pub second : CanStand schema sub.cond (second_scope schema sub)
