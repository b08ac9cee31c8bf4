-- Where a condition and its formula speak of the same rows: those of a binding, and those of the variables of its
-- scope. An entry of the main query that the condition does not name may have any variable.
use Rattle.std.specs.Prelude.{ℕ, suc, true, ◌≡◌, List, length, map, slice_get, option_and_then}
use Rattle.lint_core.specs.declared.condition.Cond.{Cond}
use Rattle.lint_core.specs.declared.database.Database.{Database}
use Rattle.lint_core.specs.Condition.{place_of}
use Rattle.lint_core.specs.Fits.{at_entry}
use Rattle.lint_core.specs.Database.{Place}
use Rattle.lint_core.specs.Naming.{names}
use Rattle.lint_core.specs.declared.scope.Scope.{Scope}

module _ (db : Database) (scope : Scope) (binding : List (List ℕ)) (rows : List Place) where
  -- the variable of the entry has the row of the entry
  abbrev pub IsRowOf : ℕ → ℕ → Type 0
  IsRowOf level entry = option_and_then (slice_get rows) (at_entry scope.levels level entry) ≡ place_of db scope.tables binding level entry

  pub record StandsFor (cond : Cond) : Type 0 where
    -- one row for each quantifier outside
    pub depth : length rows ≡ scope.depth
    -- one variable, and one row, for each entry of each level
    pub variables : map length scope.levels ≡ map length scope.tables
    pub entries : map length binding ≡ map length scope.tables
    pub main : (entry : ℕ) → names entry cond ≡ true → IsRowOf 0 entry
    pub inner : (level entry : ℕ) → IsRowOf (suc level) entry
