-- The answer of a query (ISO/IEC 9075:1992, 7.9 and 7.6): a multiset of rows (the order of the list means nothing), one for each binding of the main
-- entries at which the condition of WHERE is true. With DISTINCT it has one of each set of rows that are not
-- distinct. There is none where the condition has no truth at some binding.
use Rattle.std.specs.Prelude.{Bool, not, List, [], ◌∷◌, map, is_some, if◌then◌else◌}
use Rattle.std.specs.List.{filter}
use Rattle.std.specs.Cmp.Lexicographic.{pointwise}
use Rattle.lint_core.specs.declared.database.Database.{Database}
use Rattle.lint_core.specs.declared.database.Value.{Value}
use Rattle.lint_core.specs.declared.query.Item.{Item}
use Rattle.lint_core.specs.declared.query.Query.{Query}
use Rattle.lint_core.specs.Asked.{main_condition, main_entries}
use Rattle.lint_core.specs.Comparison.{are_not_distinct}
use Rattle.lint_core.specs.Condition.{Inner, truth, term_value, inner_bindings, selected}
use Rattle.lint_core.specs.Evaluation.{Evaluated, map_ok}
use Rattle.lint_core.specs.Fits.{tables_of}

-- value by value not distinct
abbrev pub are_not_distinct_rows : List Value → List Value → Bool
are_not_distinct_rows row other = pointwise are_not_distinct row other

-- the first of each set of rows that are not distinct
abbrev pub one_of_each : List (List Value) → List (List Value)
one_of_each [] = []
one_of_each (row ∷ rows) = row ∷ filter (λ other. not (are_not_distinct_rows row other)) (one_of_each rows)

module _ (db : Database) (query : Query) where
  -- the row that a binding gives
  abbrev pub row_at : Inner → List Value
  row_at inner = map (λ (item : Item). term_value db inner.tables inner.binding item.term) query.items

  -- the rows of all bindings at which the condition is true
  abbrev pub all_rows : Evaluated (List (List Value))
  all_rows = map_ok (map row_at) (selected (inner_bindings db (tables_of (main_entries query)) (truth db (main_condition query)) [] []))

  abbrev pub answer : Evaluated (List (List Value))
  answer = map_ok (λ rows. if is_some query.distinct then one_of_each rows else rows) all_rows
