-- The counter sentence of a question: it holds in a database exactly where some points refute the question (in
-- databases of the domains in which the scalar subqueries asked of before it give at most one row). It is a lead,
-- the tables of rows that are there, and a body, what must hold of these rows.
use Rattle.std.specs.Prelude.{ℕ, ◌+◌, ◌-◌, ℤ, pos, neg_ℤ, ◌-ℤ◌, List, [], ◌∷◌, ◌++◌, length, map, slice_get, unwrap_or, if◌then◌else◌, insert, remove}
use Rattle.std.specs.List.{filter, zip}
use Rattle.std.specs.Option.{option_map_or}
use Rattle.lint_core.specs.declared.condition.Cond.{Cond}
use Rattle.lint_core.specs.declared.condition.Cond.TheVariants as cond
use Rattle.lint_core.specs.declared.condition.Term.{Term}
use Rattle.lint_core.specs.declared.condition.Term.TheVariants as term
use Rattle.lint_core.specs.declared.database.Value.{Value}
use Rattle.lint_core.specs.declared.database.Value.TheVariants as value
use Rattle.lint_core.specs.declared.query.Item.{Item}
use Rattle.lint_core.specs.declared.query.Query.{Query}
use Rattle.lint_core.specs.declared.query.Question.{Question}
use Rattle.lint_core.specs.declared.query.Question.TheVariants.{OneRow, Empty, NeedlessDistinct, Constant, Duplicate, NeedlessJoin, Implied, Impossible, SameRow, NullInNotIn}
use Rattle.lint_core.specs.declared.schema.Table.{Table}
use Rattle.lint_core.specs.Asked.{main_condition, main_entries, scalars_of, not_ins_of, conjuncts_with, conjuncts_without}
use Rattle.lint_core.specs.Fits.{tables_of}
use Rattle.lint_core.specs.Predicates.{with_replaced}
use Rattle.lint_core.specs.Subqueries.{Subquery, is_column}
use Rattle.sort_formula.specs.declared.formula.Side.TheVariants as side
use Rattle.sort_formula.specs.declared.formula.Atom.TheVariants as atom
use Rattle.sort_formula.specs.declared.formula.Formula.{Formula}
use Rattle.sort_formula.specs.declared.formula.Formula.TheVariants as f
use Rattle.sort_formula.specs.Cells.{le, not_distinct_cells}
use Rattle.sort_formula.specs.Negated.{negated}
use Rattle.lint_core.specs.declared.scope.Scope.{Scope}
use Rattle.sort_formula.specs.Sides.{nothing, from_number, all_of, scope_of, numbered_from, side_of, is_text_term, is_null_formula, not_null_formula}
use Rattle.sort_formula.specs.Translation.{is_true_formula, exist_rows}

-- the tables of the leading rows, in order, and what must hold of them
pub record CounterParts : Type 0 where
  pub lead : List ℕ
  pub body : Formula

-- some rows of the lead's tables satisfy the body
abbrev pub sentence_of : CounterParts → Formula
sentence_of parts = exist_rows parts.lead parts.body

-- of a subquery that is not there
abbrev pub no_counter : CounterParts
no_counter = record { lead = []; body = nothing }

-- all levels but the last, and the last one
abbrev pub outer_levels : List (List ℕ) → List (List ℕ)
outer_levels [] = []
outer_levels (level ∷ []) = []
outer_levels (level ∷ next ∷ levels) = level ∷ outer_levels (next ∷ levels)

abbrev pub last_level : List (List ℕ) → List ℕ
last_level [] = []
last_level (level ∷ []) = level
last_level (level ∷ next ∷ levels) = last_level (next ∷ levels)

-- some two variables of the lists at one place have two rows
abbrev pub some_other : List ℕ → List ℕ → Formula
some_other rows others = f.Or (map (λ pair. f.Atom (atom.Other pair.0 pair.1)) (zip rows others))

module _ (schema : List Table) where
  -- the two columns are not distinct: both NULL, or equal; by the scope of each
  abbrev pub not_distinct : Scope → Term → Scope → Term → Formula
  not_distinct scope a other b =
      not_distinct_cells (is_text_term schema scope a) (is_null_formula schema scope a) (is_null_formula schema other b)
      (side_of schema scope a) (side_of schema other b)

  -- ---- E9: two rows of the subquery, in the same rows outside

  module _ (sub : Subquery) where
    abbrev pub first_scope : Scope
    first_scope = scope_of sub.tables

    abbrev pub own_count : ℕ
    own_count = length (last_level sub.tables)

    -- the same outside, with the variables of the second row
    abbrev pub second_scope : Scope
    second_scope = record {
      levels = numbered_from 0 (outer_levels sub.tables) ++ from_number first_scope.depth own_count ∷ [];
      tables = sub.tables;
      depth = first_scope.depth + own_count;
    }

    -- both are quantified before either condition
    abbrev pub deeper : Scope → Scope
    deeper scope = record { levels = scope.levels; tables = scope.tables; depth = second_scope.depth }

    abbrev pub two_rows : CounterParts
    two_rows = record {
      lead = all_of sub.tables ++ last_level sub.tables;
      body =
          f.And (
          is_true_formula schema sub.cond (deeper first_scope)
          ∷ is_true_formula schema sub.cond second_scope
          ∷ some_other (last_level first_scope.levels) (last_level second_scope.levels) ∷ []
          );
    }

    -- E10: the subquery selects NULL
    abbrev pub selects_null : CounterParts
    selects_null = record {
      lead = all_of sub.tables;
      body = f.And (is_true_formula schema sub.cond first_scope ∷ is_null_formula schema first_scope sub.item ∷ []);
    }

  module _ (query : Query) where
    abbrev pub own : List ℕ
    own = tables_of (main_entries query)

    abbrev pub scope : Scope
    scope = scope_of (own ∷ [])

    abbrev pub where_formula : Formula
    where_formula = is_true_formula schema (main_condition query) scope

    -- one row of each entry, of which this must hold
    abbrev pub of_own : Formula → CounterParts
    of_own body = record { lead = own; body = body }

    -- WHERE is true there, and more
    abbrev pub where_with : List Formula → CounterParts
    where_with more = of_own (f.And (where_formula ∷ more))

    abbrev pub item_term : ℕ → Term
    item_term item = option_map_or (λ (i : Item). i.term) (slice_get query.items item) term.Null

    -- ---- E2: two different bindings with WHERE true give rows that are not distinct

    abbrev pub count : ℕ
    count = length own

    abbrev pub twice_scope : List ℕ → Scope
    twice_scope variables = record { levels = variables ∷ []; tables = own ∷ []; depth = count + count }

    abbrev pub one_scope : Scope
    one_scope = twice_scope (from_number 0 count)

    abbrev pub two_scope : Scope
    two_scope = twice_scope (from_number count count)

    abbrev pub items_alike : List Formula
    items_alike = map (λ (i : Item). not_distinct one_scope i.term two_scope i.term) (filter (λ (i : Item). is_column i.term) query.items)

    abbrev pub distinct_counter : CounterParts
    distinct_counter = record {
      lead = own ++ own;
      body =
          f.And (
          is_true_formula schema (main_condition query) one_scope
          ∷ is_true_formula schema (main_condition query) two_scope
          ∷ some_other (from_number 0 count) (from_number count count)
          ∷ items_alike
          );
    }

    -- ---- E3: the column has another value

    -- where value and column are of one kind: NULL, or less, or greater, or another text
    abbrev pub differs_from_number : Term → ℤ → Formula
    differs_from_number t v =
        f.Or (is_null_formula schema scope t ∷ le (side_of schema scope t) side.Zero (v -ℤ pos 1) ∷ le side.Zero (side_of schema scope t) (neg_ℤ v -ℤ pos 1) ∷ [])

    abbrev pub differs_from_text : Term → List ℕ → Formula
    differs_from_text t text = f.Or (is_null_formula schema scope t ∷ f.Atom (atom.TextNe (side_of schema scope t) (side.Text text)) ∷ [])

    -- WHERE is true, and the column differs from the value (from one of another kind it does)
    abbrev pub differs_from : Term → Value → Formula
    differs_from t value.Null = f.And (where_formula ∷ not_null_formula schema scope t ∷ [])
    differs_from t (value.Int v) = if is_text_term schema scope t then where_formula else f.And (where_formula ∷ differs_from_number t v ∷ [])
    differs_from t (value.Text text) = if is_text_term schema scope t then f.And (where_formula ∷ differs_from_text t text ∷ []) else where_formula

    -- ---- E5: no row of the entry fits, or two do

    module _ (entry : ℕ) where
      -- the others have the variables from 0 on, the entry this one
      abbrev pub join_scope : ℕ → ℕ → Scope
      join_scope variable depth = record { levels = insert (from_number 0 (count - 1)) entry variable ∷ []; tables = own ∷ []; depth = depth }

      abbrev pub table_of_entry : ℕ
      table_of_entry = unwrap_or (slice_get own entry) 0

      abbrev pub fits_at : ℕ → ℕ → Formula
      fits_at variable depth = f.And (map (λ c. is_true_formula schema c (join_scope variable depth)) (conjuncts_with entry query))

      abbrev pub none_or_two : Formula
      none_or_two =
          f.Or (
          f.Forall table_of_entry (negated (fits_at (count - 1) count))
          ∷ f.Exists table_of_entry (f.Exists table_of_entry (f.And (fits_at (count - 1) (count + 1) ∷ fits_at count (count + 1) ∷ f.Atom (atom.Other (count - 1) count) ∷ [])))
          ∷ []
          )

      -- (the conjuncts without the entry have no variable of it: 0 stands in)
      abbrev pub join_counter : CounterParts
      join_counter = record {
        lead = remove own entry;
        body = f.And (map (λ c. is_true_formula schema c (join_scope 0 (count - 1))) (conjuncts_without entry query) ++ none_or_two ∷ []);
      }

    -- ---- E6 and E7: WHERE and WHERE with the predicate replaced are not true at the same rows

    abbrev pub replaced_counter : Cond → CounterParts
    replaced_counter replaced =
        let other = is_true_formula schema replaced scope in
        of_own (f.Or (f.And (where_formula ∷ negated other ∷ []) ∷ f.And (other ∷ negated where_formula ∷ []) ∷ []))

    abbrev pub counter : Question → Value → CounterParts
    counter (OneRow sub) given = option_map_or two_rows (slice_get (scalars_of query) sub) no_counter
    counter Empty given = of_own where_formula
    counter NeedlessDistinct given = distinct_counter
    counter (Constant item) given = of_own (differs_from (item_term item) given)
    counter (Duplicate item other) given = where_with (negated (not_distinct scope (item_term item) scope (item_term other)) ∷ [])
    counter (NeedlessJoin entry) given = join_counter entry
    counter (Implied predicate) given = replaced_counter (with_replaced cond.True predicate (main_condition query))
    counter (Impossible predicate) given = replaced_counter (with_replaced cond.False predicate (main_condition query))
    counter (SameRow entry other) given = where_with (f.Atom (atom.Other entry other) ∷ [])
    counter (NullInNotIn sub) given = option_map_or selects_null (slice_get (not_ins_of query) sub) no_counter

    abbrev pub counter_sentence : Question → Value → Formula
    counter_sentence question given = sentence_of (counter question given)
