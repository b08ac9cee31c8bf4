-- For the law that a truth depends on nothing but rows: when two bindings, each in its database, name rows of
-- equal values, and which tables a condition names.
use Rattle.std.specs.Prelude.{ℕ, ◌≡◌, List, [], ◌++◌, length, Option, slice_get, option_and_then}
use Rattle.std.specs.List.{AllByRecursion, flat_map}
use Rattle.std.specs.Option.{option_map}
use Rattle.lint_core.specs.declared.condition.Cond.{Cond, fold-Cond}
use Rattle.lint_core.specs.declared.condition.Cond.TheOpen.{Cond-F, Block-F}
use Rattle.lint_core.specs.declared.database.Database.{Database}
use Rattle.lint_core.specs.declared.database.Row.{Row}
use Rattle.lint_core.specs.declared.database.Value.{Value}
use Rattle.lint_core.specs.Condition.{place_of}
use Rattle.lint_core.specs.Database.{Place, rows_of}
use Rattle.lint_core.specs.Fits.{tables_of}

-- the values of the row of an entry, if the row is there
abbrev pub row_values : Database → List (List ℕ) → List (List ℕ) → ℕ → ℕ → Option (List Value)
row_values db tables binding level entry =
    option_and_then (λ (place : Place). option_map (λ (row : Row). row.values) (slice_get (rows_of db place.table) place.row))
    (place_of db tables binding level entry)

-- the binding in the one database and the other binding in the other database have the levels of the tables, and
-- the row of each entry has equal values
pub record HaveEqualRows (db other : Database) (tables binding others : List (List ℕ)) : Type 0 where
  pub levels : length binding ≡ length tables
  pub other_levels : length others ≡ length tables
  pub equal : (level entry : ℕ) → row_values db tables binding level entry ≡ row_values other tables others level entry

abbrev pub named_step : Cond-F (List ℕ) (List ℕ) → List ℕ
named_step Cond-F.True = []
named_step Cond-F.False = []
named_step (Cond-F.And parts) = flat_map (λ part. part) parts
named_step (Cond-F.Or parts) = flat_map (λ part. part) parts
named_step (Cond-F.Not part) = part
named_step (Cond-F.Compare op left right span) = []
named_step (Cond-F.IsNull t negated span) = []
named_step (Cond-F.Exists block span) = block
named_step (Cond-F.In t block item negated span) = block
named_step (Cond-F.Scalar op left block item span) = block

abbrev pub block_named_step : Block-F (List ℕ) (List ℕ) → List ℕ
block_named_step block = tables_of block.entries ++ block.cond

-- the tables in the FROM lists of the condition's subqueries, at any depth
abbrev pub tables_named : Cond → List ℕ
tables_named = fold-Cond (List ℕ) (List ℕ) named_step block_named_step

-- the two databases have the same rows in each of the tables
abbrev pub HaveSameTables : Database → Database → List ℕ → Type 0
HaveSameTables db other tables = AllByRecursion (λ table. rows_of db table ≡ rows_of other table) tables
