-- What stands where in a database. A row is named by its table and its place there, from 0, so equal
-- rows may stand twice (a table is a multiset of rows: ISO/IEC 9075:1992, 4.9).
use Rattle.std.specs.Prelude.{ℕ, zero, suc, List, [], ◌∷◌, ◌++◌, length, map, Option, slice_get, unwrap_or, option_and_then}
use Rattle.std.specs.List.{flat_map}
use Rattle.lint_core.specs.declared.database.Value.{Value}
use Rattle.lint_core.specs.declared.database.Row.{Row}
use Rattle.lint_core.specs.declared.database.Database.{Database}

-- a row of the database: its table, and its place in it
pub record Place : Type 0 where
  pub table : ℕ
  pub row : ℕ

-- the rows of a table; none where there is no such table
abbrev pub rows_of : Database → ℕ → List Row
rows_of db table = unwrap_or (slice_get db.tables table) []

-- the value of a column of a row, if both are there
abbrev pub value_at : Database → Place → ℕ → Option Value
value_at db place column = option_and_then (λ (row : Row). slice_get row.values column) (slice_get (rows_of db place.table) place.row)

-- the numbers below n, in order
abbrev pub below : ℕ → List ℕ
below zero = []
below (suc n) = below n ++ n ∷ []

-- the places of all rows of a table
abbrev pub places_of : Database → ℕ → List Place
places_of db table = map (λ row. record { table = table; row = row }) (below (length (rows_of db table)))

-- all lists of one row for each of the tables, in order: those with the first row of the first table first
abbrev pub row_lists : Database → List ℕ → List (List ℕ)
row_lists db [] = [] ∷ []
row_lists db (table ∷ tables) = flat_map (λ row. map (λ rows. row ∷ rows) (row_lists db tables)) (below (length (rows_of db table)))
