-- The form of the points at which a question of a query may fail: how many bindings there are, of which entries, and
-- that they name existing rows.
use Rattle.std.specs.Prelude.{ℕ, Bool, false, ◌&&◌, not, [], ◌∷◌, slice_get, remove}
use Rattle.std.specs.Option.{option_map_or}
use Rattle.lint_core.specs.declared.database.Binding.{Binding}
use Rattle.lint_core.specs.declared.database.Database.{Database}
use Rattle.lint_core.specs.declared.database.Points.{Points}
use Rattle.lint_core.specs.declared.database.Points.TheVariants.{One, Two, Without}
use Rattle.lint_core.specs.declared.query.Query.{Query}
use Rattle.lint_core.specs.declared.query.Question.{Question}
use Rattle.lint_core.specs.declared.query.Question.TheVariants.{OneRow, Empty, NeedlessDistinct, Constant, Duplicate, NeedlessJoin, Implied, Impossible, SameRow, NullInNotIn}
use Rattle.lint_core.specs.Asked.{main_entries, scalars_of, not_ins_of}
use Rattle.lint_core.specs.Fits.{main_tables, tables_of}
use Rattle.lint_core.specs.Points.{is_binding, is_same_binding, differ_in_last_level, differ_in_entry}
use Rattle.lint_core.specs.Subqueries.{Subquery}

module _ (db : Database) (query : Query) where
  abbrev pub is_main_binding : Binding → Bool
  is_main_binding binding = is_binding db (main_tables query) binding.levels

  -- one of the levels of a subquery, its own last
  abbrev pub is_inner_binding : Binding → Subquery → Bool
  is_inner_binding binding sub = is_binding db sub.tables binding.levels

  -- the rows of all main entries but one
  abbrev pub is_binding_without : ℕ → Binding → Bool
  is_binding_without entry binding = is_binding db (remove (tables_of (main_entries query)) entry ∷ []) binding.levels

  -- the points have the question's form and name existing rows
  abbrev pub have_form : Question → Points → Bool
  have_form (OneRow sub) (Two one two) =
      option_map_or (λ s. is_inner_binding one s && is_inner_binding two s && differ_in_last_level one.levels two.levels) (slice_get (scalars_of query) sub) false
  have_form Empty (One one) = is_main_binding one
  have_form NeedlessDistinct (Two one two) = is_main_binding one && is_main_binding two && not (is_same_binding one.levels two.levels)
  have_form (Constant item) (One one) = is_main_binding one
  have_form (Duplicate item other) (One one) = is_main_binding one
  have_form (NeedlessJoin entry) (Without one) = is_binding_without entry one
  have_form (NeedlessJoin entry) (Two one two) = is_main_binding one && is_main_binding two && differ_in_entry entry one.levels two.levels
  have_form (Implied predicate) (One one) = is_main_binding one
  have_form (Impossible predicate) (One one) = is_main_binding one
  have_form (SameRow entry other) (One one) = is_main_binding one
  have_form (NullInNotIn sub) (One one) = option_map_or (is_inner_binding one) (slice_get (not_ins_of query) sub) false
  -- points of another form
  have_form question points = false
