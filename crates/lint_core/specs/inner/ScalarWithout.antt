-- Whether some conjunct of a condition that does not name an entry has a scalar subquery.
use Rattle.std.specs.Prelude.{ℕ, Bool, not}
use Rattle.std.specs.List.{list_any, filter}
use Rattle.lint_core.specs.declared.condition.Cond.{Cond}
use Rattle.lint_core.specs.Conjuncts.{conjuncts}
use Rattle.lint_core.specs.Naming.{names, has_scalar}

abbrev pub has_scalar_without : ℕ → Cond → Bool
has_scalar_without entry cond = list_any has_scalar (filter (λ c. not (names entry c)) (conjuncts cond))
