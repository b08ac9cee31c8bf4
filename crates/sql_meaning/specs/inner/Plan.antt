-- The clauses of the questions in the pieces that the code computes them by.
use Rattle.std.specs.Prelude.{ℕ, Bool, false, ◌&&◌, not, List, [], ◌∷◌, length, map, Ok, if◌then◌else◌}
use Rattle.std.specs.List.{list_any, list_all}
use Rattle.lint_core.specs.declared.condition.Cond.{Cond}
use Rattle.lint_core.specs.declared.database.Binding.{Binding}
use Rattle.lint_core.specs.declared.database.Database.{Database}
use Rattle.lint_core.specs.declared.query.Item.{Item}
use Rattle.lint_core.specs.declared.query.Query.{Query}
use Rattle.lint_core.specs.Asked.{conjuncts_without}
use Rattle.lint_core.specs.Comparison.{are_not_distinct}
use Rattle.lint_core.specs.Condition.{term_value, truth}
use Rattle.lint_core.specs.Database.{rows_of, below}
use Rattle.lint_core.specs.Evaluation.{Evaluated, map_ok, all_ok, all_hold}
use Rattle.lint_core.specs.Points.{differ_in_last_level}
use Rattle.lint_core.specs.Forms.{is_main_binding, is_binding_without, is_inner_binding}
use Rattle.lint_core.specs.Question.{all_true, one_is_true, where_truth, where_replaced, are_true_with, table_of, no_row_fits}
use Rattle.lint_core.specs.Subqueries.{Subquery}

-- the items' values at two bindings of these tables are not distinct
abbrev pub are_same_values : Database → List (List ℕ) → List (List ℕ) → List (List ℕ) → List Item → Bool
are_same_values db tables one two items =
    list_all (λ (item : Item). are_not_distinct (term_value db tables one item.term) (term_value db tables two item.term)) items

module _ (db : Database) (query : Query) where
  -- a main binding at which WHERE is true, with a fact
  abbrev pub at_one : Bool → Binding → Evaluated Bool
  at_one fact one = if is_main_binding db query one then map_ok (λ here. here && fact) (all_true (where_truth db query one ∷ [])) else Ok false

  -- two main bindings at which WHERE is true, which differ as the question asks, with a fact
  abbrev pub at_two : Bool → Bool → Binding → Binding → Evaluated Bool
  at_two differ fact one two =
      if is_main_binding db query one && is_main_binding db query two && differ
      then map_ok (λ both. both && fact) (all_true (where_truth db query one ∷ where_truth db query two ∷ []))
      else Ok false

  -- a main binding at which replacing the predicate changes whether WHERE is true
  abbrev pub at_replaced : Cond → ℕ → Binding → Evaluated Bool
  at_replaced by predicate one =
      if is_main_binding db query one then one_is_true (where_truth db query one) (where_replaced db query by predicate one) else Ok false

  -- at no row of the entry are these conditions true
  abbrev pub none_fits : ℕ → Binding → List Cond → Evaluated Bool
  none_fits entry others conds =
      map_ok (λ fit. not (list_any (λ fits. fits) fit))
      (all_ok (map (λ row. are_true_with db query entry others row conds) (below (length (rows_of db (table_of db query entry))))))

  abbrev pub at_rest : ℕ → Binding → Evaluated Bool
  at_rest entry one =
      if is_binding_without db query entry one
      then all_hold (are_true_with db query entry one 0 (conjuncts_without entry query) ∷ no_row_fits db query entry one ∷ [])
      else Ok false

  -- two bindings of a subquery at which its condition is true
  abbrev pub at_inner_two : Subquery → Binding → Binding → Evaluated Bool
  at_inner_two sub one two =
      if is_inner_binding db query one sub && is_inner_binding db query two sub && differ_in_last_level one.levels two.levels
      then all_true (truth db sub.cond sub.tables one.levels ∷ truth db sub.cond sub.tables two.levels ∷ [])
      else Ok false

  -- a binding of a subquery at which its condition is true, with a fact
  abbrev pub at_inner_one : Subquery → Bool → Binding → Evaluated Bool
  at_inner_one sub fact one =
      if is_inner_binding db query one sub
      then map_ok (λ here. here && fact) (all_true (truth db sub.cond sub.tables one.levels ∷ []))
      else Ok false
