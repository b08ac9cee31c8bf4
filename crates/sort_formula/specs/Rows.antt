-- The tables of rows, as `formula_fits` takes them.
use Rattle.std.specs.Prelude.{ℕ, List, map}
use Rattle.lint_core.specs.Database.{Place}

abbrev pub tables_of_rows : List Place → List ℕ
tables_of_rows rows = map (λ (place : Place). place.table) rows
