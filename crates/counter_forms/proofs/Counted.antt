-- The counter sentence of each question that is asked of a query that fits.
use Rattle.std.proofs.Common.{◌≡◌, ◌<◌, sym, refl, subst, ℕ, true, not, ◌&&◌, List, [], length}
use Rattle.std.proofs.lemmas.List.{length-map}
use Rattle.std.specs.List.{list_any}
use Rattle.std.specs.Option.{option_map_or}
use Rattle.std.specs.Prelude.{Option, None, Some, nat_lt, slice_get}
use Rattle.lint_base.proofs.Lists.{below_true, both_left, both_right, every_at}
use Rattle.lint_core.specs.declared.condition.Cond.TheVariants as cond
use Rattle.lint_core.specs.declared.condition.Entry.{Entry}
use Rattle.lint_core.specs.declared.database.Value.{Value}
use Rattle.lint_core.specs.declared.query.Query.{Query}
use Rattle.lint_core.specs.declared.query.Question.{Question}
use Rattle.lint_core.specs.declared.query.Question.TheVariants.{OneRow, Empty, NeedlessDistinct, Constant, Duplicate, NeedlessJoin, Implied, Impossible, SameRow, NullInNotIn}
use Rattle.lint_core.specs.declared.schema.Table.{Table}
use Rattle.lint_core.specs.Asked.{conjuncts_without, is_asked, is_selected, main_condition, main_entries, not_ins_of, scalars_of}
use Rattle.lint_core.specs.Fits.{cond_fits, main_tables, query_fits}
use Rattle.lint_core.specs.Naming.{has_scalar}
use Rattle.lint_core.specs.Subqueries.{Subquery}
use Rattle.sort_formula.specs.Counters.{counter_sentence, no_counter, own, selects_null, sentence_of, two_rows}
use Rattle.sort_formula.specs.Sides.{nothing}
use Rattle.truth_laws.proofs.Layers.{fits_true, fits_false}
use Rattle.question_truths.specs.SubqueryFits.{subquery_fits, tables_exist}
use Rattle.counter_forms.proofs.Formed.{Formed, plain_is_formed, plain_or}
use Rattle.counter_forms.proofs.Joins.{join_formed}
use Rattle.counter_forms.proofs.LastLevels.{HasLevel, have_levels}
use Rattle.counter_forms.proofs.Pairs.{distinct_formed, null_formed, rows_formed}
use Rattle.counter_forms.proofs.Single.{constant_formed, duplicate_formed, empty_formed, replaced_formed, same_row_formed}

-- what the parts of the query are known to be
pub record PartsFit (schema : List Table) (query : Query) : Type 0 where
  pub tables : tables_exist schema (main_tables query) ≡ true
  pub condition : cond_fits schema (main_tables query) (main_condition query) ≡ true
  pub scalars : (number : ℕ) (sub : Subquery) → slice_get (scalars_of query) number ≡ Some sub → subquery_fits schema sub ≡ true
  pub not_ins : (number : ℕ) (sub : Subquery) → slice_get (not_ins_of query) number ≡ Some sub → subquery_fits schema sub ≡ true

module _ (schema : List Table) (query : Query) (fits : query_fits schema query ≡ true) (parts : PartsFit schema query) where
  none_formed : Formed schema [] (sentence_of no_counter)
  none_formed = plain_is_formed schema [] nothing (plain_or schema [] [] tt)

  scalar_formed : (number : ℕ) (found : Option Subquery) → slice_get (scalars_of query) number ≡ found → Formed schema [] (sentence_of (option_map_or (two_rows schema) found no_counter))
  scalar_formed number None at = none_formed
  scalar_formed number (Some sub) at =
      rows_formed schema sub (parts.scalars number sub at) (every_at HasLevel (scalars_of query) number sub (have_levels (main_condition query) (main_tables query)).0 at)

  not_in_formed : (number : ℕ) (found : Option Subquery) → slice_get (not_ins_of query) number ≡ found → Formed schema [] (sentence_of (option_map_or (selects_null schema) found no_counter))
  not_in_formed number None at = none_formed
  not_in_formed number (Some sub) at = null_formed schema sub (parts.not_ins number sub at)

  entry_there : (entry : ℕ) → is_asked schema query (NeedlessJoin entry) ≡ true → entry < length (own schema query)
  entry_there entry asked =
      let many = nat_lt 1 (length (main_entries query)) in
      let there = nat_lt entry (length (main_entries query)) in
      let unselected = not (is_selected query entry) in
      let plain = not (list_any has_scalar (conjuncts_without entry query)) in
      let low : entry < length (main_entries query) = below_true entry (length (main_entries query)) (both_right many there (both_left (many && there) unselected (both_left (many && there && unselected) plain asked))) in
      subst (λ n. entry < n) (sym (length-map (main_entries query) (λ (e : Entry). e.table))) low

  pub counter_formed : (question : Question) (given : Value) → is_asked schema query question ≡ true → Formed schema [] (counter_sentence schema query question given)
  counter_formed (OneRow sub) given asked = scalar_formed sub (slice_get (scalars_of query) sub) refl
  counter_formed Empty given asked = empty_formed schema query fits parts.tables parts.condition
  counter_formed NeedlessDistinct given asked = distinct_formed schema query fits parts.tables parts.condition
  counter_formed (Constant item) given asked = constant_formed schema query fits parts.tables parts.condition item given asked
  counter_formed (Duplicate item other) given asked = duplicate_formed schema query fits parts.tables parts.condition item other asked
  counter_formed (NeedlessJoin entry) given asked = join_formed schema query parts.tables parts.condition entry (entry_there entry asked)
  counter_formed (Implied predicate) given asked = replaced_formed schema query fits parts.tables parts.condition cond.True predicate (fits_true schema)
  counter_formed (Impossible predicate) given asked = replaced_formed schema query fits parts.tables parts.condition cond.False predicate (fits_false schema)
  counter_formed (SameRow entry other) given asked = same_row_formed schema query fits parts.tables parts.condition entry other asked
  counter_formed (NullInNotIn sub) given asked = not_in_formed sub (slice_get (not_ins_of query) sub) refl
