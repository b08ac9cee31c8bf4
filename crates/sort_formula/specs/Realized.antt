-- When places of a database realize a branch: each row of the branch has one, which is of its table and has a row there,
-- and every fact of the branch holds at the places that its rows name.
use Rattle.std.specs.Prelude.{◌≡◌, ℕ, true, List, [], ◌∷◌, length, map, Some, slice_get, nat_lt, ⊤}
use Rattle.std.specs.List.{AllByRecursion}
use Rattle.lint_core.specs.declared.database.Database.{Database}
use Rattle.lint_core.specs.Database.{Place, rows_of}
use Rattle.sort_formula.specs.Facts.{Fact, Branch}
use Rattle.sort_formula.specs.Holds.{holds}

-- each row number names the place beside it, among the places of the branch's rows
abbrev pub Names : List Place → List ℕ → List Place → Type 0
Names places [] [] = ⊤
Names places [] (p ∷ ps) = ⊥
Names places (r ∷ rs) [] = ⊥
Names places (r ∷ rs) (p ∷ ps) = (slice_get places r ≡ Some p) × Names places rs ps

-- the fact holds at the places that its rows name
abbrev pub Stands : Database → List Place → Fact → Type 0
Stands db places fact = (ps : List Place) × Names places fact.rows ps × (holds db fact.formula ps ≡ true)

-- the database has a row at the place
abbrev pub HasRow : Database → Place → Type 0
HasRow db place = nat_lt place.row (length (rows_of db place.table)) ≡ true

-- the places realize the branch
pub record Realized (db : Database) (branch : Branch) (places : List Place) : Type 0 where
  -- one place for each row of the branch, in order, of the row's table
  pub tables : map (λ (p : Place). p.table) places ≡ branch.tables
  pub rows : AllByRecursion (HasRow db) places
  pub facts : AllByRecursion (Stands db places) branch.facts
