-- Which questions are asked of a query, and in what order: E9, E1 to E8, E10, those of one kind by position. In
-- this order E9 asks of each scalar subquery; E1 of the query; E2 of its DISTINCT; E3 of each written item that is
-- a column; E4 of each two such items of one kind; E5 of each entry of the main FROM list, beside others, that no
-- item and no order key names, where no conjunct that does not name it has a scalar subquery; E6 of each
-- predicate, then E7 of each; E8 of each two main entries of one table; E10 of each NOT IN subquery that selects a column.
use Rattle.std.specs.Prelude.{ℕ, Bool, true, false, ◌&&◌, ◌||◌, not, nat_eq, nat_lt, List, ◌∷◌, ◌++◌, length, map, slice_get, is_some}
use Rattle.std.specs.List.{list_any, filter, flat_map}
use Rattle.std.specs.Option.{option_map_or}
use Rattle.lint_core.specs.declared.condition.Cond.{Cond}
use Rattle.lint_core.specs.declared.condition.Block.{out-Block}
use Rattle.lint_core.specs.declared.condition.Entry.{Entry}
use Rattle.lint_core.specs.declared.query.Item.{Item}
use Rattle.lint_core.specs.declared.query.Query.{Query}
use Rattle.lint_core.specs.declared.query.Question.{Question}
use Rattle.lint_core.specs.declared.query.Question.TheVariants.{OneRow, Empty, NeedlessDistinct, Constant, Duplicate, NeedlessJoin, Implied, Impossible, SameRow, NullInNotIn}
use Rattle.lint_core.specs.declared.schema.Table.{Table}
use Rattle.lint_core.specs.Database.{below}
use Rattle.lint_core.specs.Kind.{are_of_one_kind}
use Rattle.lint_core.specs.Fits.{main_tables, term_kind}
use Rattle.lint_core.specs.Conjuncts.{conjuncts}
use Rattle.lint_core.specs.Naming.{term_names, names, has_scalar}
use Rattle.lint_core.specs.Predicates.{predicates}
use Rattle.lint_core.specs.Subqueries.{Subquery, is_column, scalar_subqueries, not_in_subqueries}

-- the condition of WHERE and of each ON
abbrev pub main_condition : Query → Cond
main_condition query = (out-Block query.block).cond

abbrev pub main_entries : Query → List Entry
main_entries query = (out-Block query.block).entries

abbrev pub scalars_of : Query → List Subquery
scalars_of query = scalar_subqueries (main_condition query) (main_tables query)

abbrev pub not_ins_of : Query → List Subquery
not_ins_of query = not_in_subqueries (main_condition query) (main_tables query)

-- the conjuncts of the condition that name an entry, and the others
abbrev pub conjuncts_with : ℕ → Query → List Cond
conjuncts_with entry query = filter (names entry) (conjuncts (main_condition query))

abbrev pub conjuncts_without : ℕ → Query → List Cond
conjuncts_without entry query = filter (λ c. not (names entry c)) (conjuncts (main_condition query))

-- a column that does not come from `*`
abbrev pub is_written_column : Item → Bool
is_written_column item = is_column item.term && not item.star

-- an item, also one from `*`, or an order key names the entry
abbrev pub is_selected : Query → ℕ → Bool
is_selected query entry = list_any (λ (item : Item). term_names entry item.term) query.items || list_any (term_names entry) query.order

-- both are there, and the test says yes of them
abbrev pub test_two : {A : Type 0} → (A → A → Bool) → List A → ℕ → ℕ → Bool
test_two test xs i j = option_map_or (λ x. option_map_or (test x) (slice_get xs j) false) (slice_get xs i) false

abbrev pub are_of_one_table : Entry → Entry → Bool
are_of_one_table entry other = nat_eq entry.table other.table

module _ (schema : List Table) (query : Query) where
  abbrev pub are_comparable : Item → Item → Bool
  are_comparable item other =
      is_written_column item && is_written_column other
      && are_of_one_kind (term_kind schema (main_tables query) item.term) (term_kind schema (main_tables query) other.term)

  abbrev pub is_asked : Question → Bool
  is_asked (OneRow sub) = nat_lt sub (length (scalars_of query))
  is_asked Empty = true
  is_asked NeedlessDistinct = is_some query.distinct
  is_asked (Constant item) = option_map_or is_written_column (slice_get query.items item) false
  is_asked (Duplicate item other) = nat_lt item other && test_two are_comparable query.items item other
  is_asked (NeedlessJoin entry) =
      nat_lt 1 (length (main_entries query)) && nat_lt entry (length (main_entries query))
      && not (is_selected query entry)
      && not (list_any has_scalar (conjuncts_without entry query))
  is_asked (Implied predicate) = nat_lt predicate (length (predicates (main_condition query)))
  is_asked (Impossible predicate) = nat_lt predicate (length (predicates (main_condition query)))
  is_asked (SameRow entry other) = nat_lt entry other && test_two are_of_one_table (main_entries query) entry other
  is_asked (NullInNotIn sub) = nat_lt sub (length (not_ins_of query))

-- for each two numbers below n, by the first and then by the second
abbrev pub each_two : (ℕ → ℕ → Question) → ℕ → List Question
each_two question n = flat_map (λ i. map (question i) (below n)) (below n)

-- all questions by number, of which those are asked that the test says yes of
abbrev pub candidates : Query → List Question
candidates query =
    map OneRow (below (length (scalars_of query)))
    ++ Empty ∷ NeedlessDistinct
    ∷ map Constant (below (length query.items))
    ++ each_two Duplicate (length query.items)
    ++ map NeedlessJoin (below (length (main_entries query)))
    ++ map Implied (below (length (predicates (main_condition query))))
    ++ map Impossible (below (length (predicates (main_condition query))))
    ++ each_two SameRow (length (main_entries query))
    ++ map NullInNotIn (below (length (not_ins_of query)))

-- the questions of the query, in order
abbrev pub questions : List Table → Query → List Question
questions schema query = filter (is_asked schema query) (candidates query)
