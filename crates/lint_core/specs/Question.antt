-- When points refute a question of a query. They have the question's form and name existing rows; and then the
-- clause of the question says what has to be true there. A clause is decided only where each condition that it
-- names has a truth at each binding that it names: instead of yes or no there is else the place in the text of
-- the first scalar subquery that gives two rows. Of a question that is not asked of the query nothing is claimed.
use Rattle.std.specs.Prelude.{ℕ, Bool, true, false, ◌&&◌, ◌||◌, ◌≡◌, not, nat_lt, List, [], ◌∷◌, length, map, slice_get, if◌then◌else◌}
use Rattle.std.specs.List.{list_all, list_any}
use Rattle.std.specs.Option.{option_map_or}
use Rattle.std.specs.Prelude.{Ok, Err}
use Rattle.lint_core.specs.declared.condition.Cond.{Cond}
use Rattle.lint_core.specs.declared.condition.Cond.TheVariants as cond
use Rattle.lint_core.specs.declared.condition.Entry.{Entry}
use Rattle.lint_core.specs.declared.database.Binding.{Binding}
use Rattle.lint_core.specs.declared.database.Database.{Database}
use Rattle.lint_core.specs.declared.database.Points.{Points}
use Rattle.lint_core.specs.declared.database.Points.TheVariants.{One, Two, Without}
use Rattle.lint_core.specs.declared.database.Truth.{Truth}
use Rattle.lint_core.specs.declared.database.Value.{Value}
use Rattle.lint_core.specs.declared.database.Value.TheVariants.{Null}
use Rattle.lint_core.specs.declared.query.Item.{Item}
use Rattle.lint_core.specs.declared.query.Query.{Query}
use Rattle.lint_core.specs.declared.query.Question.{Question}
use Rattle.lint_core.specs.declared.query.Question.TheVariants.{OneRow, Empty, NeedlessDistinct, Constant, Duplicate, NeedlessJoin, Implied, Impossible, SameRow, NullInNotIn}
use Rattle.lint_core.specs.declared.schema.Table.{Table}
use Rattle.lint_core.specs.Asked.{main_condition, main_entries, scalars_of, not_ins_of, conjuncts_with, conjuncts_without}
use Rattle.lint_core.specs.Comparison.{is_null, are_not_distinct}
use Rattle.lint_core.specs.Condition.{truth, is_true_at, term_value}
use Rattle.lint_core.specs.Database.{rows_of, below}
use Rattle.lint_core.specs.Evaluation.{Evaluated, and_then, map_ok, all_ok, all_hold}
use Rattle.lint_core.specs.Fits.{main_tables}
use Rattle.lint_core.specs.Forms.{have_form}
use Rattle.lint_core.specs.Meets.{meets}
use Rattle.lint_core.specs.Points.{with_row, is_same_row}
use Rattle.lint_core.specs.Predicates.{with_replaced}
use Rattle.lint_core.specs.Subqueries.{Subquery}
use Rattle.lint_core.specs.Truth.{is_true}

-- each is true
abbrev pub all_true : List (Evaluated Truth) → Evaluated Bool
all_true truths = all_hold (map (map_ok is_true) truths)

-- exactly one of the two is true
abbrev pub one_is_true : Evaluated Truth → Evaluated Truth → Evaluated Bool
one_is_true a b = and_then (λ t. map_ok (λ u. (is_true t && not (is_true u)) || (is_true u && not (is_true t))) b) a

-- what stands for the truth of a condition at a binding, by the tables and the rows of the entries of each level
abbrev pub Interpretation : Type 0
Interpretation = Cond → List (List ℕ) → List (List ℕ) → Evaluated Truth

-- the outcome is decided, and is yes
abbrev pub is_known_true : Evaluated Bool → Bool
is_known_true (Ok fact) = fact
is_known_true (Err place) = false

module _ (db : Database) (query : Query) where
  -- the value of an item
  abbrev pub item_value : Binding → Item → Value
  item_value binding item = term_value db (main_tables query) binding.levels item.term

  abbrev pub value_of_item : Binding → ℕ → Value
  value_of_item binding item = option_map_or (item_value binding) (slice_get query.items item) Null

  -- the items' values at the two bindings are not distinct
  abbrev pub are_same_items : Binding → Binding → Bool
  are_same_items one two = list_all (λ (item : Item). are_not_distinct (item_value one item) (item_value two item)) query.items

  -- the table of a main entry
  abbrev pub table_of : ℕ → ℕ
  table_of entry = option_map_or (λ (e : Entry). e.table) (slice_get (main_entries query) entry) 0

  abbrev pub inner_value : List Subquery → ℕ → Binding → Value
  inner_value subs sub binding = option_map_or (λ (s : Subquery). term_value db s.tables binding.levels s.item) (slice_get subs sub) Null

  -- by the truth of a condition, or by what stands for it
  module _ (interpret : Interpretation) where
    abbrev pub where_by : Binding → Evaluated Truth
    where_by binding = interpret (main_condition query) (main_tables query) binding.levels

    -- the conditions at the binding of all entries in which this entry has this row
    abbrev pub are_true_by : ℕ → Binding → ℕ → List Cond → Evaluated Bool
    are_true_by entry others row conds = all_true (map (λ c. interpret c (main_tables query) (with_row entry row others.levels)) conds)

    -- at no row of the entry are all conjuncts true that name it
    abbrev pub no_row_by : ℕ → Binding → Evaluated Bool
    no_row_by entry others =
        map_ok (λ fit. not (list_any (λ fits. fits) fit))
        (all_ok (map (λ row. are_true_by entry others row (conjuncts_with entry query)) (below (length (rows_of db (table_of entry))))))

    -- the condition of WHERE with a predicate replaced
    abbrev pub replaced_by : Cond → ℕ → Binding → Evaluated Truth
    replaced_by by predicate binding = interpret (with_replaced by predicate (main_condition query)) (main_tables query) binding.levels

    -- of a subquery, at a binding of its levels
    abbrev pub inner_by : List Subquery → ℕ → Binding → Evaluated Truth
    inner_by subs sub binding = option_map_or (λ (s : Subquery). interpret s.cond s.tables binding.levels) (slice_get subs sub) (Ok Truth.False)

    -- what refutes the question, at points of its form. The value is that of the constant column
    abbrev pub clause_by : Question → Value → Points → Evaluated Bool
    -- the subquery gives two rows
    clause_by (OneRow sub) given (Two one two) = all_true (inner_by (scalars_of query) sub one ∷ inner_by (scalars_of query) sub two ∷ [])
    -- the answer has a row
    clause_by Empty given (One one) = all_true (where_by one ∷ [])
    -- the answer without DISTINCT has two rows that are not distinct
    clause_by NeedlessDistinct given (Two one two) = map_ok (λ both. both && are_same_items one two) (all_true (where_by one ∷ where_by two ∷ []))
    -- the item has a distinct value
    clause_by (Constant item) given (One one) = map_ok (λ here. here && not (are_not_distinct (value_of_item one item) given)) (all_true (where_by one ∷ []))
    -- the two items have distinct values
    clause_by (Duplicate item other) given (One one) =
        map_ok (λ here. here && not (are_not_distinct (value_of_item one item) (value_of_item one other))) (all_true (where_by one ∷ []))
    -- no row of the entry fits; or two do. (0 stands in for a row of the entry, which these conjuncts do not name)
    clause_by (NeedlessJoin entry) given (Without one) = all_hold (are_true_by entry one 0 (conjuncts_without entry query) ∷ no_row_by entry one ∷ [])
    clause_by (NeedlessJoin entry) given (Two one two) = all_true (where_by one ∷ where_by two ∷ [])
    -- exactly one of the two is true: WHERE, and WHERE with TRUE, or with FALSE, in place of the predicate
    clause_by (Implied predicate) given (One one) = one_is_true (where_by one) (replaced_by cond.True predicate one)
    clause_by (Impossible predicate) given (One one) = one_is_true (where_by one) (replaced_by cond.False predicate one)
    -- the two entries have different rows
    clause_by (SameRow entry other) given (One one) = map_ok (λ here. here && not (is_same_row one.levels entry other)) (all_true (where_by one ∷ []))
    -- the subquery selects NULL
    clause_by (NullInNotIn sub) given (One one) = map_ok (λ here. here && is_null (inner_value (not_ins_of query) sub one)) (all_true (inner_by (not_ins_of query) sub one ∷ []))
    -- points of another form: not reached from `outcome`
    clause_by question given points = Ok false

    -- whether the points refute the question, where that can be decided
    abbrev pub outcome_by : Question → Value → Points → Evaluated Bool
    outcome_by question given points = if have_form db query question points then clause_by question given points else Ok false

  -- by the truths themselves

  abbrev pub where_truth : Binding → Evaluated Truth
  where_truth = where_by (truth db)

  abbrev pub are_true_with : ℕ → Binding → ℕ → List Cond → Evaluated Bool
  are_true_with = are_true_by (truth db)

  abbrev pub no_row_fits : ℕ → Binding → Evaluated Bool
  no_row_fits = no_row_by (truth db)

  abbrev pub where_replaced : Cond → ℕ → Binding → Evaluated Truth
  where_replaced = replaced_by (truth db)

  abbrev pub clause : Question → Value → Points → Evaluated Bool
  clause = clause_by (truth db)

  abbrev pub outcome : Question → Value → Points → Evaluated Bool
  outcome = outcome_by (truth db)

  abbrev pub refutes : Question → Value → Points → Bool
  refutes question given points = is_known_true (outcome question given points)

  -- no points refute the question. Points at which it cannot be decided refute nothing; of a question that is asked there
  -- are such only where some scalar subquery gives two rows: the law `outcomes_are_decided_where_earlier_questions_hold`
  -- of `question_truths`
  abbrev pub HoldsIn : Question → Value → Type 0
  HoldsIn question given = (points : Points) → refutes question given points ≡ false

  -- how many scalar subqueries are asked of before a question
  abbrev pub scalars_before : Question → ℕ
  scalars_before (OneRow sub) = sub
  scalars_before other = length (scalars_of query)

  -- each of them gives at most one row: a question is judged in the databases in which this holds
  abbrev pub EarlierHold : Question → Type 0
  EarlierHold question = (sub : ℕ) → nat_lt sub (scalars_before question) ≡ true → HoldsIn (OneRow sub) Null

-- the condition of WHERE and of each ON is true at a binding of the main entries
abbrev pub where_is_true : Database → Query → List (List ℕ) → Bool
where_is_true db query binding = is_true_at db (main_condition query) (main_tables query) binding

-- the question holds in every database that meets the schema; for E3 with this value
abbrev pub HoldsAlways : List Table → Query → Question → Value → Type 0
HoldsAlways schema query question given = (db : Database) → meets schema db ≡ true → HoldsIn db query question given
