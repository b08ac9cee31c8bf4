-- For E5: that the rows of the other FROM entries find exactly one row of an entry.
use Rattle.std.specs.Prelude.{ℕ, Bool, true, false, ◌≡◌, List, length}
use Rattle.std.specs.List.{list_any}
use Rattle.lint_core.specs.declared.condition.Cond.{Cond}
use Rattle.lint_core.specs.declared.database.Binding.{Binding}
use Rattle.lint_core.specs.declared.database.Database.{Database}
use Rattle.lint_core.specs.declared.query.Query.{Query}
use Rattle.lint_core.specs.Asked.{conjuncts_with, conjuncts_without}
use Rattle.lint_core.specs.Database.{rows_of, below}
use Rattle.lint_core.specs.Points.{differ_in_entry}
use Rattle.lint_core.specs.Question.{are_true_with, is_known_true, table_of, where_is_true}
use Rattle.lint_core.specs.Forms.{is_binding_without}
use Rattle.lint_core.specs.Forms.{is_main_binding}

module _ (db : Database) (query : Query) (entry : ℕ) where
  -- the conditions are true at the rows of the others and this row of the entry
  abbrev pub are_true_there : Binding → ℕ → List Cond → Bool
  are_true_there others row conds = is_known_true (are_true_with db query entry others row conds)

  -- at some row of the entry the conjuncts of WHERE are true that name it
  abbrev pub some_row_fits : Binding → Bool
  some_row_fits others = list_any (λ row. are_true_there others row (conjuncts_with entry query)) (below (length (rows_of db (table_of db query entry))))

  -- wherever the conjuncts are true that do not name the entry, some row of it fits. (0 stands in for a row of the
  -- entry, which these conjuncts do not name)
  abbrev pub FindARow : Type 0
  FindARow =
      (others : Binding) → is_binding_without db query entry others ≡ true
      → are_true_there others 0 (conjuncts_without entry query) ≡ true → some_row_fits others ≡ true

  -- WHERE is not true at two bindings that have the same rows but for that of the entry
  abbrev pub FindNoTwo : Type 0
  FindNoTwo =
      (one two : Binding) → is_main_binding db query one ≡ true → is_main_binding db query two ≡ true
      → differ_in_entry entry one.levels two.levels ≡ true
      → where_is_true db query one.levels ≡ true → where_is_true db query two.levels ≡ false
