-- Which lists of tables are a schema. SMALLINT, INTEGER and BIGINT are the whole numbers of 16, 32 and
-- 64 bits (ISO/IEC 9075:1992, 4.4.1, leaves the ranges to the implementation).
use Rattle.std.specs.Prelude.{ℕ, ℤ, pos, Bool, true, false, ◌&&◌, ◌||◌, List, [], ◌∷◌, length, Option, Some, None, slice_get, nat_eq, nat_lt, nat_le, ◌^◌, ◌-◌, ◌+◌, neg_ℤ}
use Rattle.std.specs.List.{list_all, list_any, zip}
use Rattle.std.specs.Ordering.{int_eq}
use Rattle.lint_core.specs.declared.condition.Cond.{Cond}
use Rattle.lint_core.specs.declared.schema.Unit.TheVariants.{Whole}
use Rattle.lint_core.specs.declared.schema.Domain.{Domain}
use Rattle.lint_core.specs.declared.schema.Domain.TheVariants.{Number, Text}
use Rattle.lint_core.specs.declared.schema.Column.{Column}
use Rattle.lint_core.specs.declared.schema.Key.{Key}
use Rattle.lint_core.specs.declared.schema.ForeignKey.{ForeignKey}
use Rattle.lint_core.specs.declared.schema.Table.{Table}
use Rattle.lint_core.specs.Kind.{column_kind, are_of_one_kind}
use Rattle.lint_core.specs.Fits.{check_fits}

-- the whole numbers of so many bits, one of them the sign
abbrev pub is_signed_range : ℕ → ℤ → ℤ → Bool
is_signed_range bits least greatest = int_eq least (neg_ℤ (pos (2 ^ (bits - 1)))) && int_eq greatest (pos (2 ^ (bits - 1) - 1))

-- the numbers of SMALLINT, INTEGER or BIGINT, or texts with a length of 1 to 65,535
abbrev pub is_domain : Domain → Bool
is_domain (Number least greatest Whole) = is_signed_range 16 least greatest || is_signed_range 32 least greatest || is_signed_range 64 least greatest
is_domain (Text size) = nat_le 1 size && nat_le size 65535

-- at most 64 columns, each of a domain
abbrev pub are_columns : List Column → Bool
are_columns columns = nat_le (length columns) 64 && list_all (λ (c : Column). is_domain c.domain) columns

-- at most 1,000 keys, whose columns are columns of the table
abbrev pub are_keys : Table → List Key → Bool
are_keys table keys =
    nat_le (length keys) 1000
    && list_all (λ (k : Key). list_all (λ column. nat_lt column (length table.columns)) k.columns) keys

-- at most 1,000 CHECKs, which fit the table that stands under the number
abbrev pub are_checks : List Table → ℕ → List Cond → Bool
are_checks schema number checks = nat_le (length checks) 1000 && list_all (check_fits schema number) checks

-- every number of the first list is in the second
abbrev pub is_within : List ℕ → List ℕ → Bool
is_within xs ys = list_all (λ x. list_any (nat_eq x) ys) xs

-- the columns are, as a set, those of the key, and as many
abbrev pub are_columns_of : List ℕ → Key → Bool
are_columns_of columns key = nat_eq (length columns) (length key.columns) && is_within columns key.columns && is_within key.columns columns

-- as many columns of the one table as of the other, each beside one of its kind
abbrev pub are_paired : Table → Table → List ℕ → List ℕ → Bool
are_paired table target columns others =
    nat_eq (length columns) (length others)
    && list_all (λ pair. are_of_one_kind (column_kind table pair.0) (column_kind target pair.1)) (zip columns others)

-- the columns are paired with columns of the target, which are those of one of its keys
abbrev pub refers_to : Table → ForeignKey → Option Table → Bool
refers_to table foreign None = false
refers_to table foreign (Some target) =
    are_paired table target foreign.columns foreign.target_columns
    && list_any (are_columns_of foreign.target_columns) target.keys

-- at most 1,000 foreign keys, each to a table that is there and that it refers to rightly
abbrev pub are_foreign_keys : List Table → Table → List ForeignKey → Bool
are_foreign_keys schema table keys =
    nat_le (length keys) 1000
    && list_all (λ (k : ForeignKey). refers_to table k (slice_get schema k.target)) keys

-- a table that stands in the schema under the number: its columns, keys, CHECKs and foreign keys are right
abbrev pub is_table : List Table → ℕ → Table → Bool
is_table schema number table =
    are_columns table.columns
    && are_keys table table.keys
    && are_checks schema number table.checks
    && are_foreign_keys schema table table.foreign

-- each is right under its number, the first under this one
abbrev pub are_tables : List Table → ℕ → List Table → Bool
are_tables schema number [] = true
are_tables schema number (table ∷ tables) = is_table schema number table && are_tables schema (number + 1) tables

-- at most 200 tables, numbered from 0
abbrev pub is_schema : List Table → Bool
is_schema tables = nat_le (length tables) 200 && are_tables tables 0 tables
