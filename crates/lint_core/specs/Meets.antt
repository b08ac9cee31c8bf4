-- When a database meets a schema (ISO/IEC 9075:1992, 4.10 and 11.6 to 11.9): it has the schema's tables,
-- each row has one value for each column, each in its column's domain, and every constraint is met.
use Rattle.std.specs.Prelude.{ℕ, suc, Bool, true, false, ◌&&◌, ◌||◌, not, nat_eq, List, [], ◌∷◌, unwrap_or}
use Rattle.std.specs.List.{list_all, list_any}
use Rattle.std.specs.Cmp.Lexicographic.{pointwise}
use Rattle.lint_core.specs.declared.condition.Cond.{Cond}
use Rattle.lint_core.specs.declared.database.Value.{Value}
use Rattle.lint_core.specs.declared.database.Value.TheVariants.{Null}
use Rattle.lint_core.specs.declared.database.Row.{Row}
use Rattle.lint_core.specs.declared.database.Database.{Database}
use Rattle.lint_core.specs.declared.schema.Column.{Column}
use Rattle.lint_core.specs.declared.schema.Key.{Key}
use Rattle.lint_core.specs.declared.schema.ForeignKey.{ForeignKey}
use Rattle.lint_core.specs.declared.schema.Table.{Table}
use Rattle.lint_core.specs.Comparison.{are_equal, is_null}
use Rattle.lint_core.specs.Condition.{is_false_at}
use Rattle.lint_core.specs.Database.{Place, rows_of, value_at, places_of}
use Rattle.lint_core.specs.Domain.{is_in_domain}

-- as many values as columns, each in its column's domain
abbrev pub values_meet : List Column → List Value → Bool
values_meet [] [] = true
values_meet [] (v ∷ vs) = false
values_meet (c ∷ cs) [] = false
values_meet (c ∷ cs) (v ∷ vs) = is_in_domain c.domain v && values_meet cs vs

abbrev pub rows_meet : Table → List Row → Bool
rows_meet table rows = list_all (λ (row : Row). values_meet table.columns row.values) rows

-- as many lists of rows as tables, each of its table
abbrev pub tables_meet : List Table → List (List Row) → Bool
tables_meet [] [] = true
tables_meet [] (r ∷ rs) = false
tables_meet (t ∷ ts) [] = false
tables_meet (t ∷ ts) (r ∷ rs) = rows_meet t r && tables_meet ts rs

-- a value in a column that is marked not_null is not NULL
abbrev pub no_nulls : List Column → List Value → Bool
no_nulls [] vs = true
no_nulls (c ∷ cs) [] = true
no_nulls (c ∷ cs) (v ∷ vs) = not (c.not_null && is_null v) && no_nulls cs vs

module _ (db : Database) where
  -- the value of a column in the row of a place (NULL where there is no such value)
  abbrev pub value_in : Place → ℕ → Value
  value_in place column = unwrap_or (value_at db place column) Null

  -- equal values in each pair of columns, and so no NULL among them
  abbrev pub agree : Place → List ℕ → Place → List ℕ → Bool
  agree place columns other others = pointwise (λ c d. are_equal (value_in place c) (value_in other d)) columns others

  -- no two different places have rows that agree in the key's columns
  abbrev pub key_met : ℕ → Key → Bool
  key_met table key =
      list_all (λ (place : Place). list_all (λ (other : Place). nat_eq place.row other.row || not (agree place key.columns other key.columns)) (places_of db table))
      (places_of db table)

  -- false at no place; one that is unknown is met
  abbrev pub check_met : ℕ → Cond → Bool
  check_met table check =
      list_all (λ (place : Place). not (is_false_at db check ((table ∷ []) ∷ []) ((place.row ∷ []) ∷ []))) (places_of db table)

  -- at each place an own column is NULL, or some row of the target has equal values in the paired columns
  abbrev pub foreign_met : ℕ → ForeignKey → Bool
  foreign_met table foreign =
      list_all (λ (place : Place).
      list_any (λ column. is_null (value_in place column)) foreign.columns
      || list_any (λ (target : Place). agree place foreign.columns target foreign.target_columns) (places_of db foreign.target))
      (places_of db table)

  -- the constraints of a table, which has this number
  abbrev pub constraints_met : ℕ → Table → Bool
  constraints_met number table =
      list_all (λ (row : Row). no_nulls table.columns row.values) (rows_of db number)
      && list_all (key_met number) table.keys
      && list_all (check_met number) table.checks
      && list_all (foreign_met number) table.foreign

  -- those of the tables from this number on
  abbrev pub all_constraints_met : ℕ → List Table → Bool
  all_constraints_met number [] = true
  all_constraints_met number (t ∷ ts) = constraints_met number t && all_constraints_met (suc number) ts

-- every value in its domain, as many values as columns
abbrev pub is_of_domains : List Table → Database → Bool
is_of_domains schema db = tables_meet schema db.tables

abbrev pub meets : List Table → Database → Bool
meets schema db = is_of_domains schema db && all_constraints_met db 0 schema
