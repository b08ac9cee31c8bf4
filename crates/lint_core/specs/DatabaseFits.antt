-- When a database fits a schema: it has a list of rows for each table, and each row has a value for each column.
-- The values are not looked at.
use Rattle.std.specs.Prelude.{Bool, true, false, ◌&&◌, nat_eq, nat_lt, ◌^◌, List, [], ◌∷◌, length}
use Rattle.std.specs.List.{list_all}
use Rattle.lint_core.specs.declared.database.Row.{Row}
use Rattle.lint_core.specs.declared.database.Database.{Database}
use Rattle.lint_core.specs.declared.schema.Table.{Table}

abbrev pub rows_fit : Table → List Row → Bool
rows_fit table rows = list_all (λ (row : Row). nat_eq (length row.values) (length table.columns)) rows

-- as many lists of rows as tables, each of its table
abbrev pub tables_fit : List Table → List (List Row) → Bool
tables_fit [] [] = true
tables_fit [] (r ∷ rs) = false
tables_fit (t ∷ ts) [] = false
tables_fit (t ∷ ts) (r ∷ rs) = rows_fit t r && tables_fit ts rs

abbrev pub database_fits : List Table → Database → Bool
database_fits schema db = tables_fit schema db.tables

-- each table has fewer than 2^32 rows
abbrev pub has_few_rows : Database → Bool
has_few_rows db = list_all (λ rows. nat_lt (length rows) (2 ^ 32)) db.tables
