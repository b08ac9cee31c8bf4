-- The truth of a condition at a binding (ISO/IEC 9075:1992, 8.12; for subqueries 7.6, 7.11, 8.4 and 8.8).
-- A binding has one row place for each FROM entry of each level, the outermost first; the entries' tables,
-- as many and in the same order, say of which table. A condition has no truth where a scalar subquery that
-- it contains gives two rows: at the binding itself, or at some inner binding of a subquery in which it
-- stands, also where another part alone would decide (this project's own rule). Instead of a truth there is
-- then the place in the text of the scalar subquery that is met first: the parts from left to right; in a
-- subquery one inner binding after the other, in the order of `row_lists`; what a scalar subquery contains
-- before it itself. A scalar subquery whose
-- own condition has no truth is never the one named.
use Rattle.std.specs.Prelude.{ℕ, Bool, List, [], ◌∷◌, ◌++◌, map, Option, Some, unwrap_or, option_and_then, false, if◌then◌else◌}
use Rattle.std.specs.Prelude.{Ok, Err}
use Rattle.lint_base.specs.declared.place.Span.{Span}
use Rattle.lint_tables.specs.declared.op.Op.TheVariants.{Eq}
use Rattle.lint_core.specs.declared.condition.Entry.{Entry}
use Rattle.lint_core.specs.declared.condition.Term.{Term}
use Rattle.lint_core.specs.declared.condition.Term.TheVariants as term
use Rattle.lint_core.specs.declared.condition.Cond.{Cond, fold-Cond}
use Rattle.lint_core.specs.declared.condition.Cond.TheOpen.{Cond-F, Block-F}
use Rattle.lint_core.specs.declared.database.Value.{Value}
use Rattle.lint_core.specs.declared.database.Value.TheVariants as value
use Rattle.lint_core.specs.declared.database.Truth.{Truth}
use Rattle.lint_core.specs.declared.database.Truth.TheVariants.{False, True}
use Rattle.lint_core.specs.declared.database.Database.{Database}
use Rattle.lint_core.specs.Database.{Place, value_at, row_lists}
use Rattle.lint_core.specs.Truth.{truth_of, not_of, negated_if, and_of, or_of, is_true, is_false}
use Rattle.lint_core.specs.Comparison.{compare, plus, is_null}
use Rattle.lint_core.specs.Evaluation.{Evaluated, and_then, map_ok, all_ok}
use Rattle.lint_core.specs.Fits.{at_entry}

-- an inner binding of a block with the tables of its entries, and the truth of the block's condition there
pub record Inner : Type 0 where
  pub tables : List (List ℕ)
  pub binding : List (List ℕ)
  pub truth : Evaluated Truth

-- the inner bindings at which the block's condition is true, where it has a truth at each
abbrev pub selected : List Inner → Evaluated (List Inner)
selected [] = Ok []
selected (inner ∷ others) = and_then (λ truth. map_ok (λ later. if is_true truth then inner ∷ later else later) (selected others)) inner.truth

-- EXISTS: true where some row is selected, else false
abbrev pub exists_truth : List Inner → Truth
exists_truth [] = False
exists_truth (inner ∷ others) = True

-- IN, the OR of its comparisons: true where one is true, else unknown where one is unknown, else false
abbrev pub in_truth : Value → List Value → Truth
in_truth left items = or_of (map (λ item. compare Eq left item) items)

-- there is a truth, and it is such a one
abbrev pub has_truth : (Truth → Bool) → Evaluated Truth → Bool
has_truth test (Ok truth) = test truth
has_truth test (Err place) = false

-- the one value that a scalar subquery gives: NULL for no row; for two rows its place
abbrev pub scalar_value : Span → List Value → Evaluated Value
scalar_value place [] = Ok value.Null
scalar_value place (item ∷ []) = Ok item
scalar_value place (item ∷ other ∷ items) = Err place

-- the meanings of a condition and of a block, by the tables and the binding of the levels outside
abbrev pub Meaning : Type 0
Meaning = List (List ℕ) → List (List ℕ) → Evaluated Truth

pub record BlockMeaning : Type 0 where
  pub place : Span
  pub bindings : List (List ℕ) → List (List ℕ) → List Inner

module _ (db : Database) where
  -- the row of an entry
  abbrev pub place_of : List (List ℕ) → List (List ℕ) → ℕ → ℕ → Option Place
  place_of tables binding level entry =
      option_and_then (λ table. option_and_then (λ row. Some (record { table = table; row = row })) (at_entry binding level entry)) (at_entry tables level entry)

  -- the value of a cell's column in its row (NULL where there is no such cell or row)
  abbrev pub cell_value : List (List ℕ) → List (List ℕ) → ℕ → ℕ → ℕ → Value
  cell_value tables binding level entry column =
      unwrap_or (option_and_then (λ place. value_at db place column) (place_of tables binding level entry)) value.Null

  abbrev pub term_value : List (List ℕ) → List (List ℕ) → Term → Value
  term_value tables binding (term.Cell level entry column added) = plus (cell_value tables binding level entry column) added
  term_value tables binding (term.Number n unit) = value.Int n
  term_value tables binding (term.Text text) = value.Text text
  term_value tables binding term.Null = value.Null

  -- what the block selects at the inner bindings
  abbrev pub items_at : Term → List Inner → List Value
  items_at item inners = map (λ (inner : Inner). term_value inner.tables inner.binding item) inners

  -- one more level, with each list of rows of the block's tables
  abbrev pub inner_bindings : List ℕ → Meaning → List (List ℕ) → List (List ℕ) → List Inner
  inner_bindings entries cond tables binding =
      map (λ rows. record {
        tables = tables ++ entries ∷ [];
        binding = binding ++ rows ∷ [];
        truth = cond (tables ++ entries ∷ []) (binding ++ rows ∷ []);
      })
      (row_lists db entries)

  -- one layer of a condition, from the meanings of its parts
  abbrev pub cond_step : Cond-F Meaning BlockMeaning → Meaning
  cond_step Cond-F.True tables binding = Ok True
  cond_step Cond-F.False tables binding = Ok False
  cond_step (Cond-F.And parts) tables binding = map_ok and_of (all_ok (map (λ part. part tables binding) parts))
  cond_step (Cond-F.Or parts) tables binding = map_ok or_of (all_ok (map (λ part. part tables binding) parts))
  cond_step (Cond-F.Not part) tables binding = map_ok not_of (part tables binding)
  cond_step (Cond-F.Compare op left right span) tables binding =
      Ok (compare op (term_value tables binding left) (term_value tables binding right))
  cond_step (Cond-F.IsNull term negated span) tables binding =
      Ok (negated_if negated (truth_of (is_null (term_value tables binding term))))
  cond_step (Cond-F.Exists block span) tables binding = map_ok exists_truth (selected (block.bindings tables binding))
  cond_step (Cond-F.In term block item negated span) tables binding =
      map_ok (λ inners. negated_if negated (in_truth (term_value tables binding term) (items_at item inners)))
      (selected (block.bindings tables binding))
  cond_step (Cond-F.Scalar op left block item span) tables binding =
      and_then (λ inners. map_ok (compare op (term_value tables binding left)) (scalar_value block.place (items_at item inners)))
      (selected (block.bindings tables binding))

  abbrev pub block_step : Block-F Meaning BlockMeaning → BlockMeaning
  block_step block = record {
    place = block.span;
    bindings = inner_bindings (map (λ (e : Entry). e.table) block.entries) block.cond;
  }

  -- the truth of a condition, built from the inside out: in each layer the parts are already functions from
  -- tables and binding to a truth
  abbrev pub truth : Cond → Meaning
  truth = fold-Cond Meaning BlockMeaning cond_step block_step

  -- the condition has a truth at the binding, which is true; or which is false
  abbrev pub is_true_at : Cond → List (List ℕ) → List (List ℕ) → Bool
  is_true_at cond tables binding = has_truth is_true (truth cond tables binding)

  abbrev pub is_false_at : Cond → List (List ℕ) → List (List ℕ) → Bool
  is_false_at cond tables binding = has_truth is_false (truth cond tables binding)
