-- The small examples, worked.
use Rattle.std.proofs.Common.{◌≡◌, ◌∙◌, ap, refl, pos, true, false, [], ◌∷◌, map, codes, ◌^◌, ◌-◌}
use Rattle.std.specs.Prelude.{Ok, Err}
use Rattle.lint_tables.specs.declared.op.Op.TheVariants.{Eq, Lt, Gt}
use Rattle.lint_core.specs.declared.condition.Term.TheVariants as term
use Rattle.lint_core.specs.declared.condition.Entry.{Entry}
use Rattle.lint_core.specs.declared.condition.Block.{Block, out-roll-Block}
use Rattle.lint_core.specs.declared.condition.Cond.{Cond}
use Rattle.lint_core.specs.declared.condition.Cond.TheVariants as c
use Rattle.lint_core.specs.declared.condition.Cond.TheOpen.{Block-F}
use Rattle.lint_core.specs.declared.database.Value.TheVariants.{Null, Int, Text}
use Rattle.lint_core.specs.declared.database.Truth.TheVariants.{False, Unknown, True}
use Rattle.lint_core.specs.declared.database.Database.{Database}
use Rattle.lint_core.specs.Condition.{truth, Meaning, inner_bindings, term_value}
use Rattle.lint_core.specs.Comparison.{compare, plus, are_not_distinct}
use Rattle.lint_core.specs.Meets.{meets}
use Rattle.worked_laws.specs.Examples.{nowhere, number, the_column, from_first, null_equals_null, one_is_not_in, one_equals_the_row, false_and_the_row, exists_null, database, plain, unique, checked, referring}
use Rattle.lint_core.proofs.Conditions.{block_truth, layer_truth, truth_out, block_truth_is, truth_compare, truth_and, truth_false, truth_exists, truth_in, truth_scalar}

module _ (db : Database) where
  pub everywhere_true : truth db c.True ≡ (λ tables binding. Ok True)
  everywhere_true = truth_out db c.True ∙ ap (layer_truth db) c.outs-True

  -- the inner bindings of a subquery of the first table
  pub first_bindings : (cond : Cond) (meaning : Meaning) → truth db cond ≡ meaning → block_truth db (from_first cond) ≡ record { place = nowhere; bindings = inner_bindings db (0 ∷ []) meaning }
  first_bindings cond meaning is =
      block_truth_is db (from_first cond)
      ∙ (ap (λ (b : Block-F Cond Block). record { place = b.span; bindings = inner_bindings db (map (λ (e : Entry). e.table) b.entries) (truth db b.cond) })
      (out-roll-Block (record { entries = record { table = 0; name = []; span = nowhere } ∷ []; cond = cond; span = nowhere }))
      ∙ ap (λ (m : Meaning). record { place = nowhere; bindings = inner_bindings db (0 ∷ []) m }) is)

pub null_is_no_null : (db : Database) → truth db null_equals_null [] [] ≡ Ok Unknown
null_is_no_null db = truth_compare db Eq term.Null term.Null nowhere [] []

pub not_in_null : truth (database ((Null ∷ []) ∷ [])) one_is_not_in [] [] ≡ Ok Unknown
not_in_null =
    let db = database ((Null ∷ []) ∷ []) in
    truth_in db (number 1) (from_first c.True) the_column true nowhere [] []
    ∙ rw (first_bindings db c.True (λ tables binding. Ok True) (everywhere_true db)) refl

pub not_in_nothing : truth (database ([] ∷ [])) one_is_not_in [] [] ≡ Ok True
not_in_nothing =
    let db = database ([] ∷ []) in
    truth_in db (number 1) (from_first c.True) the_column true nowhere [] []
    ∙ rw (first_bindings db c.True (λ tables binding. Ok True) (everywhere_true db)) refl

pub no_row_is_null : truth (database ([] ∷ [])) one_equals_the_row [] [] ≡ Ok Unknown
no_row_is_null =
    let db = database ([] ∷ []) in
    truth_scalar db Eq (number 1) (from_first c.True) the_column nowhere [] []
    ∙ rw (first_bindings db c.True (λ tables binding. Ok True) (everywhere_true db)) refl

pub one_row_is_its_value : truth (database ((Int (pos 1) ∷ []) ∷ [])) one_equals_the_row [] [] ≡ Ok True
one_row_is_its_value =
    let db = database ((Int (pos 1) ∷ []) ∷ []) in
    truth_scalar db Eq (number 1) (from_first c.True) the_column nowhere [] []
    ∙ rw (first_bindings db c.True (λ tables binding. Ok True) (everywhere_true db)) refl

pub two_rows_are_no_value : truth (database ((Int (pos 1) ∷ Int (pos 1) ∷ []) ∷ [])) one_equals_the_row [] [] ≡ Err nowhere
two_rows_are_no_value =
    let db = database ((Int (pos 1) ∷ Int (pos 1) ∷ []) ∷ []) in
    truth_scalar db Eq (number 1) (from_first c.True) the_column nowhere [] []
    ∙ rw (first_bindings db c.True (λ tables binding. Ok True) (everywhere_true db)) refl

pub false_beside_two_rows : truth (database ((Int (pos 1) ∷ Int (pos 1) ∷ []) ∷ [])) false_and_the_row [] [] ≡ Err nowhere
false_beside_two_rows =
    let db = database ((Int (pos 1) ∷ Int (pos 1) ∷ []) ∷ []) in
    truth_and db (c.False ∷ one_equals_the_row ∷ []) [] []
    ∙ rw (truth_false db [] [], two_rows_are_no_value) refl

pub exists_is_never_unknown : truth (database ((Null ∷ []) ∷ [])) exists_null [] [] ≡ Ok False
exists_is_never_unknown =
    let db = database ((Null ∷ []) ∷ []) in
    let cond = c.Compare Eq the_column term.Null nowhere in
    let meaning : Meaning = λ tables binding. Ok (compare Eq (term_value db tables binding the_column) (term_value db tables binding term.Null)) in
    let is : truth db cond ≡ meaning = truth_out db cond ∙ ap (layer_truth db) (c.outs-Compare Eq the_column term.Null nowhere) in
    truth_exists db (from_first cond) nowhere [] []
    ∙ rw (first_bindings db cond meaning is) refl

-- the truth of the CHECK at the first row
check_at_first : (db : Database) → truth db (c.Compare Gt the_column (number 0) nowhere) ((0 ∷ []) ∷ []) ((0 ∷ []) ∷ []) ≡ Ok (compare Gt (term_value db ((0 ∷ []) ∷ []) ((0 ∷ []) ∷ []) the_column) (Int (pos 0)))
check_at_first db = truth_compare db Gt the_column (number 0) nowhere ((0 ∷ []) ∷ []) ((0 ∷ []) ∷ [])

pub unknown_check_is_met : meets checked (database ((Null ∷ []) ∷ [])) ≡ true
unknown_check_is_met = rw (check_at_first (database ((Null ∷ []) ∷ []))) refl

pub false_check_is_not_met : meets checked (database ((Int (pos 0) ∷ []) ∷ [])) ≡ false
false_check_is_not_met = rw (check_at_first (database ((Int (pos 0) ∷ []) ∷ []))) refl

pub null_refers_to_nothing : meets referring (database ((Null ∷ []) ∷ [] ∷ [])) ≡ true
null_refers_to_nothing = refl

pub dangling_is_not_met : meets referring (database ((Int (pos 1) ∷ []) ∷ [] ∷ [])) ≡ false
dangling_is_not_met = refl

pub reference_is_met : meets referring (database ((Int (pos 1) ∷ []) ∷ (Int (pos 1) ∷ []) ∷ [])) ≡ true
reference_is_met = refl

pub nulls_may_repeat_in_a_key : meets unique (database ((Null ∷ Null ∷ []) ∷ [])) ≡ true
nulls_may_repeat_in_a_key = refl

pub values_may_not_repeat_in_a_key : meets unique (database ((Int (pos 1) ∷ Int (pos 1) ∷ []) ∷ [])) ≡ false
values_may_not_repeat_in_a_key = refl

pub rows_may_repeat_without_a_key : meets plain (database ((Int (pos 1) ∷ Int (pos 1) ∷ []) ∷ [])) ≡ true
rows_may_repeat_without_a_key = refl

pub text_is_in_no_number_column : meets plain (database ((Text (codes "1") ∷ []) ∷ [])) ≡ false
text_is_in_no_number_column = refl

pub texts_are_not_padded : compare Eq (Text (codes "A")) (Text (codes "A ")) ≡ False
texts_are_not_padded = refl

pub texts_have_no_order : compare Lt (Text (codes "A")) (Text (codes "B")) ≡ Unknown
texts_have_no_order = refl

pub sums_do_not_overflow : compare Gt (plus (Int (pos (2 ^ 63 - 1))) (pos 1)) (Int (pos (2 ^ 63 - 1))) ≡ True
sums_do_not_overflow = refl

pub nulls_are_not_distinct : are_not_distinct Null Null ≡ true
nulls_are_not_distinct = refl
