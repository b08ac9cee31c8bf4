-- Small databases for the law `worked_inserts`.
use Rattle.std.specs.Prelude.{pos, ℕ, List, [], ◌∷◌, codes}
use Rattle.lint_core.specs.declared.database.Database.{Database}
use Rattle.lint_core.specs.declared.database.Value.TheVariants as value
use Rattle.lint_core.specs.declared.schema.ForeignKey.{ForeignKey}
use Rattle.lint_core.specs.declared.schema.Table.{Table}

-- a key of column 0 to column 0 of the table
abbrev pub key_to : ℕ → ForeignKey
key_to target = record { columns = 0 ∷ []; target = target; target_columns = 0 ∷ [] }

-- (columns and keys leave nothing in INSERT lines)
abbrev pub table_of : List ℕ → List ForeignKey → Table
table_of name foreign = record { name = name; columns = []; keys = []; checks = []; foreign = foreign }

-- EMP refers to dept, which is no plain word, and dept to SELECT, which is reserved
abbrev pub three_tables : List Table
three_tables = table_of (codes "EMP") (key_to 1 ∷ []) ∷ table_of (codes "dept") (key_to 2 ∷ []) ∷ table_of (codes "SELECT") [] ∷ []

-- as above, and SELECT refers to EMP
abbrev pub going_round : List Table
going_round = table_of (codes "EMP") (key_to 1 ∷ []) ∷ table_of (codes "dept") (key_to 2 ∷ []) ∷ table_of (codes "SELECT") (key_to 0 ∷ []) ∷ []

-- EMP refers to itself, and to dept
abbrev pub own_key : List Table
own_key = table_of (codes "EMP") (key_to 0 ∷ key_to 1 ∷ []) ∷ table_of (codes "dept") [] ∷ []

-- two rows of EMP, none of dept and one of SELECT
abbrev pub some_rows : Database
some_rows = record {
  tables =
      (record { values = value.Int (pos 7) ∷ value.Null ∷ [] } ∷ record { values = value.Text (codes "it's") ∷ value.Int (pos 0) ∷ [] } ∷ [])
      ∷ [] ∷ (record { values = value.Null ∷ [] } ∷ []) ∷ [];
}
