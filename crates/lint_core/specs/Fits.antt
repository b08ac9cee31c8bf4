-- When a query, and a condition in it, fits a schema: every position exists, what is compared may be
-- compared, and no limit is passed. A condition stands in levels, the main query's first: each has the
-- table of each of its FROM entries.
use Rattle.std.specs.Prelude.{ℕ, ◌+◌, ℤ, pos, Bool, true, false, ◌&&◌, List, [], ◌∷◌, ◌++◌, length, map, Option, Some, slice_get, option_and_then, nat_lt, nat_le, is_some, sum}
use Rattle.std.specs.List.{list_all}
use Rattle.std.specs.Ordering.{int_eq}
use Rattle.lint_tables.specs.declared.op.Op.{Op}
use Rattle.lint_tables.specs.declared.op.Op.TheVariants.{Eq}
use Rattle.lint_core.specs.declared.condition.Term.{Term}
use Rattle.lint_core.specs.declared.condition.Term.TheVariants as term
use Rattle.lint_core.specs.declared.condition.Cond.{Cond, fold-Cond}
use Rattle.lint_core.specs.declared.condition.Cond.TheOpen.{Cond-F, Block-F}
use Rattle.lint_core.specs.declared.condition.Block.{Block, fold-Block, out-Block}
use Rattle.lint_core.specs.declared.condition.Entry.{Entry}
use Rattle.lint_core.specs.declared.query.Item.{Item}
use Rattle.lint_core.specs.declared.query.Query.{Query}
use Rattle.lint_core.specs.declared.schema.Kind.{Kind}
use Rattle.lint_core.specs.declared.schema.Kind.TheVariants as kind
use Rattle.lint_core.specs.declared.schema.Table.{Table}
use Rattle.lint_core.specs.Kind.{column_kind, with_added, compares_both}

-- what stands at a level and an entry
abbrev pub at_entry : List (List ℕ) → ℕ → ℕ → Option ℕ
at_entry levels level entry = option_and_then (λ entries. slice_get entries entry) (slice_get levels level)

-- nothing is added
abbrev pub is_plain : Term → Bool
is_plain (term.Cell level entry column added) = int_eq added (pos 0)
is_plain (term.Number value unit) = true
is_plain (term.Text text) = true
is_plain term.Null = true

-- the tables of a FROM list
abbrev pub tables_of : List Entry → List ℕ
tables_of entries = map (λ (e : Entry). e.table) entries

-- whether a condition fits at the tables of its levels
abbrev pub Meaning : Type 0
Meaning = List (List ℕ) → Bool

-- the tables of a block's own entries, and whether it fits at the levels around it
pub record BlockMeaning : Type 0 where
  pub own : List ℕ
  pub fits : List (List ℕ) → Bool

-- the levels that a block's condition sees, its own last
abbrev pub inner_tables : List (List ℕ) → BlockMeaning → List (List ℕ)
inner_tables tables block = tables ++ block.own ∷ []

module _ (schema : List Table) where
  -- the kind of a table's column with a number added; none where there is no such column
  abbrev pub cell_kind : Option ℕ → ℕ → ℤ → Option Kind
  cell_kind table column added =
      option_and_then (with_added added) (option_and_then (λ (t : Table). column_kind t column) (option_and_then (slice_get schema) table))

  -- the kind of a term; none where it names no column, or adds to a text
  abbrev pub term_kind : List (List ℕ) → Term → Option Kind
  term_kind tables (term.Cell level entry column added) = cell_kind (at_entry tables level entry) column added
  term_kind tables (term.Number value unit) = Some (kind.Number unit)
  term_kind tables (term.Text text) = Some kind.Text
  term_kind tables term.Null = Some kind.Null

  abbrev pub term_fits : List (List ℕ) → Term → Bool
  term_fits tables t = is_some (term_kind tables t)

  -- a term compares with what a block selects, which stands in the block's own level
  abbrev pub selected_fits : List (List ℕ) → Op → Term → BlockMeaning → Term → Bool
  selected_fits tables op left block item =
      block.fits tables && is_plain item && compares_both op (term_kind tables left) (term_kind (inner_tables tables block) item)

  -- one layer of a condition, from the meanings of its parts
  abbrev pub fits_step : Cond-F Meaning BlockMeaning → Meaning
  fits_step Cond-F.True tables = true
  fits_step Cond-F.False tables = true
  fits_step (Cond-F.And parts) tables = list_all (λ part. part tables) parts
  fits_step (Cond-F.Or parts) tables = list_all (λ part. part tables) parts
  fits_step (Cond-F.Not part) tables = part tables
  fits_step (Cond-F.Compare op left right span) tables = compares_both op (term_kind tables left) (term_kind tables right)
  fits_step (Cond-F.IsNull t negated span) tables = term_fits tables t
  fits_step (Cond-F.Exists block span) tables = block.fits tables
  fits_step (Cond-F.In t block item negated span) tables = selected_fits tables Eq t block item
  fits_step (Cond-F.Scalar op left block item span) tables = selected_fits tables op left block item

  -- at most 16 entries, each of a table that exists, and a condition that fits
  abbrev pub block_step : Block-F Meaning BlockMeaning → BlockMeaning
  block_step block = record {
    own = tables_of block.entries;
    fits = λ tables.
        nat_le (length block.entries) 16
        && list_all (λ (e : Entry). nat_lt e.table (length schema)) block.entries
        && block.cond (tables ++ tables_of block.entries ∷ []);
  }

  abbrev pub cond_fits : List (List ℕ) → Cond → Bool
  cond_fits tables cond = fold-Cond Meaning BlockMeaning fits_step block_step cond tables

  abbrev pub block_meaning : Block → BlockMeaning
  block_meaning = fold-Block Meaning BlockMeaning fits_step block_step

  abbrev pub block_fits : List (List ℕ) → Block → Bool
  block_fits tables block = (block_meaning block).fits tables

  abbrev pub item_fits : List (List ℕ) → Item → Bool
  item_fits tables item = term_fits tables item.term && is_plain item.term

  -- nothing is added to an order key
  abbrev pub order_fits : List (List ℕ) → Term → Bool
  order_fits tables key = term_fits tables key && is_plain key

-- one layer of the number of conditions: each counts, those of subqueries too
abbrev pub count_step : Cond-F ℕ ℕ → ℕ
count_step Cond-F.True = 1
count_step Cond-F.False = 1
count_step (Cond-F.And parts) = 1 + sum parts
count_step (Cond-F.Or parts) = 1 + sum parts
count_step (Cond-F.Not part) = 1 + part
count_step (Cond-F.Compare op left right span) = 1
count_step (Cond-F.IsNull t negated span) = 1
count_step (Cond-F.Exists block span) = 1 + block
count_step (Cond-F.In t block item negated span) = 1 + block
count_step (Cond-F.Scalar op left block item span) = 1 + block

abbrev pub count_conditions : Cond → ℕ
count_conditions = fold-Cond ℕ ℕ count_step (λ block. block.cond)

-- one layer of whether a condition has no subquery
abbrev pub flat_step : Cond-F Bool Bool → Bool
flat_step Cond-F.True = true
flat_step Cond-F.False = true
flat_step (Cond-F.And parts) = list_all (λ part. part) parts
flat_step (Cond-F.Or parts) = list_all (λ part. part) parts
flat_step (Cond-F.Not part) = part
flat_step (Cond-F.Compare op left right span) = true
flat_step (Cond-F.IsNull t negated span) = true
flat_step (Cond-F.Exists block span) = false
flat_step (Cond-F.In t block item negated span) = false
flat_step (Cond-F.Scalar op left block item span) = false

-- the condition has no subquery
abbrev pub is_flat : Cond → Bool
is_flat = fold-Cond Bool Bool flat_step (λ block. false)

-- a CHECK speaks of one row of its table: it has no subquery, fits, and has at most 65,536 conditions
abbrev pub check_fits : List Table → ℕ → Cond → Bool
check_fits schema table check = is_flat check && nat_le (count_conditions check) 65536 && cond_fits schema ((table ∷ []) ∷ []) check

-- the one level that items and order keys see
abbrev pub main_tables : Query → List (List ℕ)
main_tables query = tables_of (out-Block query.block).entries ∷ []

-- at most 256 items; each item and each order key is a term that fits with nothing added
unfoldable pub selection_fits_in : List Table → List (List ℕ) → Query → Bool
selection_fits_in schema tables query =
    nat_le (length query.items) 256
    && list_all (item_fits schema tables) query.items
    && list_all (order_fits schema tables) query.order

abbrev pub selection_fits : List Table → Query → Bool
selection_fits schema query = selection_fits_in schema (main_tables query) query

-- a selection and a main block that fit, and at most 65,536 conditions
abbrev pub query_fits : List Table → Query → Bool
query_fits schema query =
    selection_fits schema query
    && block_fits schema [] query.block
    && nat_le (count_conditions (out-Block query.block).cond) 65536
