-- What is shown of each condition.
use Rattle.std.proofs.Common.{◌≡◌, ℕ, true, List}
use Rattle.std.specs.Prelude.{Ok}
use Rattle.lint_core.specs.declared.condition.Cond.{Cond}
use Rattle.lint_core.specs.declared.database.Database.{Database}
use Rattle.lint_core.specs.declared.database.Truth.{Truth}
use Rattle.lint_core.specs.declared.schema.Table.{Table}
use Rattle.lint_core.specs.Condition.{truth}
use Rattle.lint_core.specs.Database.{Place}
use Rattle.lint_core.specs.Fits.{cond_fits}
use Rattle.lint_core.specs.Truth.{is_true, is_false}
use Rattle.sort_formula.specs.Holds.{holds}
use Rattle.lint_core.specs.declared.scope.Scope.{Scope}
use Rattle.sort_formula.specs.Standpoint.{StandsFor}
use Rattle.sort_formula.specs.Translation.{Both, translation}

module _ (schema : List Table) (db : Database) where
  -- the two formulas hold where the condition has that truth
  abbrev pub BothSay : Both → List Place → Truth → Type 0
  BothSay both rows t = (holds db both.true rows ≡ is_true t) × (holds db both.false rows ≡ is_false t)

  abbrev pub Says : Cond → Type 0
  Says cond =
      (scope : Scope) → cond_fits schema scope.tables cond ≡ true
      → (binding : List (List ℕ)) (rows : List Place) → StandsFor db scope binding rows cond
      → (t : Truth) → truth db cond scope.tables binding ≡ Ok t → BothSay (translation schema cond scope) rows t
