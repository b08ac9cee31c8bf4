-- A NOT IN subquery that selects NULL: the body of the counter sentence holds at the leading rows exactly where the
-- points made of them refute the question loosely.
use Rattle.std.proofs.Common.{◌≡◌, ◌∙◌, sym, ap, subst, ℕ, Bool, true, false, ◌&&◌, List, [], ◌∷◌, if◌then◌else◌}
use Rattle.std.specs.Option.{option_map_or}
use Rattle.std.specs.Prelude.{Ok, Option, Some, None, slice_get}
use Rattle.lint_base.proofs.Lists.{and_true}
use Rattle.lint_core.specs.declared.condition.Cond.TheVariants as c
use Rattle.lint_core.specs.declared.database.Binding.{Binding}
use Rattle.lint_core.specs.declared.database.Database.{Database}
use Rattle.lint_core.specs.declared.database.Points.TheVariants.{One}
use Rattle.lint_core.specs.declared.database.Value.{Value}
use Rattle.lint_core.specs.declared.database.Value.TheVariants.{Null}
use Rattle.lint_core.specs.declared.query.Query.{Query}
use Rattle.lint_core.specs.declared.query.Question.TheVariants.{NullInNotIn}
use Rattle.lint_core.specs.declared.schema.Table.{Table}
use Rattle.lint_core.specs.declared.scope.Scope.{Scope}
use Rattle.lint_core.specs.declared.database.Truth.TheVariants.{False}
use Rattle.lint_core.specs.Asked.{not_ins_of}
use Rattle.lint_core.specs.Comparison.{is_null}
use Rattle.lint_core.specs.Condition.{term_value}
use Rattle.lint_core.specs.Database.{Place}
use Rattle.lint_core.specs.Evaluation.{map_ok}
use Rattle.lint_core.specs.Fits.{term_fits}
use Rattle.lint_core.specs.Forms.{is_inner_binding}
use Rattle.lint_core.specs.Meets.{is_of_domains}
use Rattle.lint_core.specs.Points.{are_rows}
use Rattle.lint_core.specs.Question.{all_true, is_known_true}
use Rattle.lint_core.specs.Subqueries.{Subquery}
use Rattle.sort_formula.specs.CounterPoints.{binding_of, points_of}
use Rattle.sort_formula.specs.Counters.{counter, no_counter, selects_null}
use Rattle.sort_formula.specs.Holds.{holds}
use Rattle.sort_formula.specs.Loose.{by_formula, rows_at, refutes_loosely}
use Rattle.sort_formula.specs.Sides.{all_of, scope_of, is_null_formula}
use Rattle.sort_formula.specs.Standpoint.{StandsFor}
use Rattle.sort_formula.specs.Translation.{is_true_formula}
use Rattle.sort_formula.proofs.Holding.{holds_and}
use Rattle.formula_laws.proofs.LeadRows.{as_many, whole_binding}
use Rattle.truth_laws.proofs.Leaves.{null_says}
use Rattle.truth_laws.proofs.Numbered.{numbered_stands}
use Rattle.truth_laws.proofs.Shapes.{binding_shape}
use Rattle.counter_laws.specs.LeadingRows.{leading_rows}
use Rattle.counter_laws.proofs.Leading.{level_rows}
use Rattle.counter_laws.proofs.Loosely.{known_in, truth_is}
use Rattle.counter_laws.proofs.Standing.{StandsForAll, term_here}

module _ (schema : List Table) (db : Database) (domains : is_of_domains schema db ≡ true) where
  module _ (s : Subquery) (fits : term_fits schema s.tables s.item ≡ true) (places : List ℕ) (are : are_rows db (all_of s.tables) places ≡ true) where
    abbrev scope : Scope
    scope = scope_of s.tables

    abbrev one : Binding
    one = binding_of s.tables places

    abbrev rows : List Place
    rows = leading_rows (all_of s.tables) places

    same_rows : rows_at s.tables one.levels ≡ rows
    same_rows = level_rows db s.tables places (as_many db (all_of s.tables) places are)

    stands : StandsForAll db scope one.levels rows
    stands cond =
        subst (λ rows. StandsFor db scope one.levels rows cond) same_rows
        (numbered_stands db s.tables one.levels (binding_shape db s.tables one.levels (whole_binding db s.tables places are)) cond)

    abbrev selects : Bool
    selects = is_null (term_value db s.tables one.levels s.item)

    body_is : holds db (selects_null schema s).body rows ≡ (holds db (is_true_formula schema s.cond scope) rows && selects)
    body_is =
        let null = is_null_formula schema scope s.item in
        holds_and db (is_true_formula schema s.cond scope ∷ null ∷ []) rows
        ∙ ap (λ b. holds db (is_true_formula schema s.cond scope) rows && b)
        (and_true (holds db null rows)
        ∙ (null_says schema db domains scope one.levels rows s.item (term_here db scope one.levels rows schema domains stands s.item) (stands (c.And [])).variables fits).0)

    loose_is : is_known_true (map_ok (λ here. here && selects) (all_true (by_formula schema db s.cond s.tables one.levels ∷ []))) ≡ (holds db (is_true_formula schema s.cond scope) rows && selects)
    loose_is =
        ap (λ b. b && selects)
        (and_true _ ∙ (truth_is (holds db (is_true_formula schema s.cond scope) (rows_at s.tables one.levels)) ∙ ap (holds db (is_true_formula schema s.cond scope)) same_rows))

  module _ (query : Query) (given : Value) (sub : ℕ) (s : Subquery) (at : slice_get (not_ins_of query) sub ≡ Some s) (fits : term_fits schema s.tables s.item ≡ true) (places : List ℕ) where
    abbrev at_points : Option Subquery → Bool
    at_points o =
        is_known_true
        (if option_map_or (is_inner_binding db query (binding_of s.tables places)) o false
        then map_ok (λ here. here && is_null (option_map_or (λ (t : Subquery). term_value db t.tables (binding_of s.tables places).levels t.item) o Null))
        (all_true (option_map_or (λ (t : Subquery). by_formula schema db t.cond t.tables (binding_of s.tables places).levels) o (Ok False) ∷ []))
        else Ok false)

    pub null_in_says : are_rows db (counter schema query (NullInNotIn sub) given).lead places ≡ true →
        holds db (counter schema query (NullInNotIn sub) given).body (leading_rows (counter schema query (NullInNotIn sub) given).lead places)
        ≡ refutes_loosely schema db query (NullInNotIn sub) given (points_of query (NullInNotIn sub) places None)
    null_in_says lead =
        let are : are_rows db (all_of s.tables) places ≡ true = sym (ap (λ o. are_rows db (option_map_or (selects_null schema) o no_counter).lead places) at) ∙ lead in
        let x = map_ok (λ here. here && is_null (term_value db s.tables (binding_of s.tables places).levels s.item)) (all_true (by_formula schema db s.cond s.tables (binding_of s.tables places).levels ∷ [])) in
        ap (λ o. holds db (option_map_or (selects_null schema) o no_counter).body (leading_rows (option_map_or (selects_null schema) o no_counter).lead places)) at
        ∙ (body_is s fits places are
        ∙ (sym (known_in (is_inner_binding db query (binding_of s.tables places) s) x (whole_binding db s.tables places are) ∙ loose_is s fits places are)
        ∙ (sym (ap at_points at)
        ∙ sym (ap (λ o. refutes_loosely schema db query (NullInNotIn sub) given (option_map_or (λ (t : Subquery). One (binding_of t.tables places)) o (One (binding_of [] places)))) at))))
