-- All places at which a database does not meet a schema, in order: by table; then values outside their domains,
-- NULLs in columns that are NOT NULL, two rows with one key, false CHECKs, and rows whose foreign key refers to
-- nothing; each by column, key or CHECK, then by row, then by the other row (ISO/IEC 9075:1992, 4.10).
use Rattle.std.specs.Prelude.{ℕ, suc, Bool, ◌&&◌, not, nat_lt, List, [], ◌∷◌, ◌++◌, length, map, Option, slice_get}
use Rattle.std.specs.List.{list_any, filter, flat_map}
use Rattle.lint_core.specs.declared.condition.Cond.{Cond}
use Rattle.lint_core.specs.declared.database.Database.{Database}
use Rattle.lint_core.specs.declared.database.Violation.{Violation}
use Rattle.lint_core.specs.declared.database.Violation.TheVariants.{Domain, Null, Twice, Check, Dangling}
use Rattle.lint_core.specs.declared.schema.Column.{Column}
use Rattle.lint_core.specs.declared.schema.Key.{Key}
use Rattle.lint_core.specs.declared.schema.ForeignKey.{ForeignKey}
use Rattle.lint_core.specs.declared.schema.Table.{Table}
use Rattle.lint_core.specs.Comparison.{is_null}
use Rattle.lint_core.specs.Condition.{is_false_at}
use Rattle.lint_core.specs.Database.{Place, rows_of, places_of, below}
use Rattle.lint_core.specs.Domain.{is_in_domain}
use Rattle.lint_core.specs.Meets.{value_in, agree}

-- what is found at each of the list, which are numbered from this number
abbrev pub numbered : {A : Type 0} → (ℕ → A → List Violation) → ℕ → List A → List Violation
numbered found number [] = []
numbered found number (x ∷ xs) = found number x ++ numbered found (suc number) xs

module _ (db : Database) (table : ℕ) where
  abbrev pub place : ℕ → Place
  place row = record { table = table; row = row }

  -- the numbers of the rows
  abbrev pub row_numbers : List ℕ
  row_numbers = below (length (rows_of db table))

  -- a violation for each row of which the test says so
  abbrev pub at_rows : (ℕ → Bool) → (ℕ → Violation) → List Violation
  at_rows test violation = map violation (filter test row_numbers)

  abbrev pub outside : ℕ → Column → List Violation
  outside column c = at_rows (λ row. not (is_in_domain c.domain (value_in db (place row) column))) (λ row. Domain table row column)

  abbrev pub nulls : ℕ → Column → List Violation
  nulls column c = at_rows (λ row. c.not_null && is_null (value_in db (place row) column)) (λ row. Null table row column)

  -- a later row that agrees in the key's columns
  abbrev pub is_twin : Key → ℕ → ℕ → Bool
  is_twin k row other = nat_lt row other && agree db (place row) k.columns (place other) k.columns

  abbrev pub twice : ℕ → Key → List Violation
  twice key k = flat_map (λ row. at_rows (is_twin k row) (λ other. Twice table key row other)) row_numbers

  abbrev pub false_checks : ℕ → Cond → List Violation
  false_checks check cond = at_rows (λ row. is_false_at db cond ((table ∷ []) ∷ []) ((row ∷ []) ∷ [])) (λ row. Check table check row)

  -- no own column is NULL, and no row of the target agrees in the paired columns
  abbrev pub refers_to_nothing : ForeignKey → ℕ → Bool
  refers_to_nothing k row =
      not (list_any (λ column. is_null (value_in db (place row) column)) k.columns)
      && not (list_any (λ (target : Place). agree db (place row) k.columns target k.target_columns) (places_of db k.target))

  abbrev pub dangling : ℕ → ForeignKey → List Violation
  dangling key k = at_rows (refers_to_nothing k) (λ row. Dangling table key row)

-- those of a table, which has this number
abbrev pub table_violations : Database → ℕ → Table → List Violation
table_violations db number table =
    numbered (outside db number) 0 table.columns
    ++ numbered (nulls db number) 0 table.columns
    ++ numbered (twice db number) 0 table.keys
    ++ numbered (false_checks db number) 0 table.checks
    ++ numbered (dangling db number) 0 table.foreign

abbrev pub violations : List Table → Database → List Violation
violations schema db = numbered (table_violations db) 0 schema

abbrev pub first_violation : List Table → Database → Option Violation
first_violation schema db = slice_get (violations schema db) 0
