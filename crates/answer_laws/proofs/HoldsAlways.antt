-- What a question that holds always says in the subject's own words: E2, E5 and those that ask of bindings.
use Rattle.std.proofs.Common.{◌≡◌, ◌∙◌, refl, sym, ap, subst, ℕ, Bool, true, false, not, ◌&&◌, ◌||◌, List, [], ◌∷◌, map, length}
use Rattle.std.proofs.lemmas.Bool.{and_from, false_from_ne_true}
use Rattle.std.specs.List.{list_any}
use Rattle.std.specs.Option.{option_map_or}
use Rattle.std.specs.Prelude.{Ok, Err, Option, Some, slice_get, is_some, if◌then◌else◌}
use Rattle.lint_base.proofs.Lists.{any_map}
use Rattle.lint_core.specs.declared.database.Binding.{Binding}
use Rattle.lint_core.specs.declared.database.Database.{Database}
use Rattle.lint_core.specs.declared.database.Points.TheVariants.{One, Two, Without}
use Rattle.lint_core.specs.declared.database.Truth.TheVariants as t
use Rattle.lint_core.specs.declared.database.Value.{Value}
use Rattle.lint_core.specs.declared.database.Value.TheVariants.{Null}
use Rattle.lint_core.specs.declared.query.Query.{Query}
use Rattle.lint_core.specs.declared.query.Question.TheVariants.{OneRow, NeedlessDistinct, NeedlessJoin, SameRow, NullInNotIn}
use Rattle.lint_core.specs.Asked.{scalars_of, not_ins_of, conjuncts_with, conjuncts_without}
use Rattle.lint_core.specs.Comparison.{is_null}
use Rattle.lint_core.specs.Condition.{truth, term_value}
use Rattle.lint_core.specs.Database.{rows_of, below}
use Rattle.lint_core.specs.Evaluation.{Evaluated, map_ok, all_ok, all_hold}
use Rattle.lint_core.specs.Points.{is_binding, is_same_row, differ_in_entry}
use Rattle.lint_core.specs.Question.{HoldsIn, all_true, are_true_with, is_known_true, outcome, table_of, where_is_true, where_truth}
use Rattle.lint_core.specs.Forms.{is_binding_without}
use Rattle.lint_core.specs.Forms.{is_main_binding}
use Rattle.lint_core.specs.QueryAnswer.{answer, one_of_each}
use Rattle.lint_core.specs.Subqueries.{Subquery}
use Rattle.question_truths.specs.AtMostOne.{GivesAtMostOneRow}
use Rattle.answer_laws.proofs.Bindings.{left, given_rows, answer_is, answer_known, truths_known}
use Rattle.answer_laws.proofs.OneOfEach.{all_left}
use Rattle.answer_laws.proofs.OneRow.{known_both, refuted, refuted_where}
use Rattle.answer_laws.proofs.Refuting.{holds_differ, known_one}
use Rattle.answer_laws.specs.AlwaysMeans.{HasBag, AreOneRow, SelectsNoNull}
use Rattle.answer_laws.specs.Answers.{times, without_distinct}
use Rattle.answer_laws.specs.FindsOneRow.{FindARow, FindNoTwo}

never : false ≡ true → ⊥
never h = cc

-- ---- of tests, one of which fails where the others pass

fails_last : (a b c : Bool) → (a && (b && c)) ≡ false → a ≡ true → b ≡ true → c ≡ false
fails_last true true c fails one two = fails
fails_last true false c fails one two = cc
fails_last false b c fails one two = cc

fails_so : (b : Bool) → not b ≡ false → b ≡ true
fails_so true fails = refl
fails_so false fails = cc

-- ---- E2

module _ (db : Database) (query : Query) (given : Value) where
  pub one_bag : HoldsIn db query NeedlessDistinct given → (rows : List (List Value)) → answer db query ≡ Ok rows → HasBag db (without_distinct query) rows
  one_bag holds rows known =
      let all = given_rows db query in
      let all_are_left : left db query query.distinct all ≡ all =
      elim (is_some query.distinct) as (λ b. (if b then one_of_each all else all) ≡ all) [
        | true ↦ all_left all (holds_differ db query given holds)
        | false ↦ refl
      ]
      in
      (all, answer_known db (without_distinct query) (truths_known db query rows known), λ row. ap (times row) (sym (answer_is db query rows known) ∙ all_are_left))

-- ---- E5

pub or_later : (b c d : Bool) → (c ≡ true → d ≡ true) → (b || c) ≡ true → (b || d) ≡ true
or_later true c d leads some = refl
or_later false c d leads some = leads some

-- of facts that are known it is known whether one of them holds
any_known : (facts : List (Evaluated Bool)) (known : List Bool) → all_ok facts ≡ Ok known → list_any (λ fact. fact) known ≡ true → list_any is_known_true facts ≡ true
any_known [] known all some = let none : known ≡ [] = cc in subst (λ k. list_any (λ fact. fact) k ≡ true) none some
any_known (Err place ∷ facts) known all some = cc
any_known (Ok fact ∷ facts) known all some = at_rest (any_known facts) (all_ok facts) refl all
  where
    at_rest : ((later : List Bool) → all_ok facts ≡ Ok later → list_any (λ fact. fact) later ≡ true → list_any is_known_true facts ≡ true) →
        (rest : Evaluated (List Bool)) → all_ok facts ≡ rest → map_ok (λ later. fact ∷ later) rest ≡ Ok known → list_any is_known_true (Ok fact ∷ facts) ≡ true
    at_rest leads (Ok later) is made =
        let same : fact ∷ later ≡ known = cc in
        or_later fact (list_any (λ fact. fact) later) (list_any is_known_true facts) (leads later is) (subst (λ k. list_any (λ fact. fact) k ≡ true) (sym same) some)
    at_rest leads (Err place) is made = cc

abbrev pub none_of : List (Evaluated Bool) → Evaluated Bool
none_of facts = map_ok (λ fit. not (list_any (λ fits. fits) fit)) (all_ok facts)

-- where it is decided that not both the others fit and no row does, and the others fit, some row does
some_fits : (form r : Bool) (others : Evaluated Bool) (facts : List (Evaluated Bool)) → form ≡ true → is_known_true others ≡ true →
    (if form then all_hold (others ∷ none_of facts ∷ []) else Ok false) ≡ Ok r →
    is_known_true (if form then all_hold (others ∷ none_of facts ∷ []) else Ok false) ≡ false → list_any is_known_true facts ≡ true
some_fits false r others facts is_form fit decided fails = cc
some_fits true r (Err place) facts is_form fit decided fails = cc
some_fits true r (Ok false) facts is_form fit decided fails = cc
some_fits true r (Ok true) facts is_form fit decided fails = at_facts (all_ok facts) refl decided fails
  where
    some : (b : Bool) → (not b && true) ≡ false → b ≡ true
    some true fails = refl
    some false fails = cc

    at_facts : (all : Evaluated (List Bool)) → all_ok facts ≡ all →
        all_hold (Ok true ∷ map_ok (λ fit. not (list_any (λ fits. fits) fit)) all ∷ []) ≡ Ok r →
        is_known_true (all_hold (Ok true ∷ map_ok (λ fit. not (list_any (λ fits. fits) fit)) all ∷ [])) ≡ false → list_any is_known_true facts ≡ true
    at_facts (Ok known) is decided fails = any_known facts known is (some (list_any (λ fits. fits) known) fails)
    at_facts (Err place) is decided fails = cc

module _ (db : Database) (query : Query) (entry : ℕ) (given : Value) where
  pub find_a_row : ((points : Binding) → (refuted : Bool) × (outcome db query (NeedlessJoin entry) given (Without points) ≡ Ok refuted)) →
      HoldsIn db query (NeedlessJoin entry) given → FindARow db query entry
  find_a_row decided holds others form fit =
      let count = length (rows_of db (table_of db query entry)) in
      let fits_with = λ (row : ℕ). are_true_with db query entry others row (conjuncts_with entry query) in
      sym (any_map fits_with is_known_true (below count))
      ∙ some_fits (is_binding_without db query entry others) (decided others).0 (are_true_with db query entry others 0 (conjuncts_without entry query)) (map fits_with (below count))
      form fit (decided others).1 (holds (Without others))

  pub find_no_two : HoldsIn db query (NeedlessJoin entry) given → FindNoTwo db query entry
  find_no_two holds one two here there differ first =
      let form = is_main_binding db query one && is_main_binding db query two && differ_in_entry entry one.levels two.levels in
      fails_last form (where_is_true db query one.levels) (where_is_true db query two.levels)
      (sym (known_both form (where_truth db query one) (where_truth db query two)) ∙ holds (Two one two))
      (and_from (is_main_binding db query one && is_main_binding db query two) (differ_in_entry entry one.levels two.levels)
      (and_from (is_main_binding db query one) (is_main_binding db query two) here there) differ)
      first

-- ---- E8

module _ (db : Database) (query : Query) (entry other : ℕ) (given : Value) where
  pub have_one_row : HoldsIn db query (SameRow entry other) given → AreOneRow db query entry other
  have_one_row holds binding main is_true =
      let same = is_same_row binding.levels entry other in
      fails_so same
      (fails_last (is_main_binding db query binding) (where_is_true db query binding.levels) (not same)
      (sym (known_one (is_main_binding db query binding) (not same) (where_truth db query binding)) ∙ holds (One binding)) main is_true)

-- ---- E9 and E10

module _ (db : Database) (query : Query) (number : ℕ) (given : Value) (sub : Subquery) where
  pub gives_one : slice_get (scalars_of query) number ≡ Some sub → HoldsIn db query (OneRow number) given → GivesAtMostOneRow db sub
  gives_one at holds one two here there differ first =
      let one_there : Binding = record { levels = one } in
      let two_there : Binding = record { levels = two } in
      false_from_ne_true _ (λ second.
      let is = (refuted_where db query sub one_there two_there).1 (here, there, differ, first, second) in
      never (sym (subst (λ found. refuted db query found one_there two_there ≡ false) at (holds (Two one_there two_there))) ∙ is))

  pub selects_no_null : slice_get (not_ins_of query) number ≡ Some sub → HoldsIn db query (NullInNotIn number) given → SelectsNoNull db sub
  selects_no_null at holds levels here is_true =
      let there : Binding = record { levels = levels } in
      fails_last (is_binding db sub.tables levels) _ (is_null (term_value db sub.tables levels sub.item))
      (sym (known_one (is_binding db sub.tables levels) (is_null (term_value db sub.tables levels sub.item)) (truth db sub.cond sub.tables levels))
      ∙ subst
      (λ (found : Option Subquery).
      is_known_true
      (if option_map_or (λ (s : Subquery). is_binding db s.tables levels) found false
      then map_ok (λ here. here && is_null (option_map_or (λ (s : Subquery). term_value db s.tables levels s.item) found Null))
      (all_true (option_map_or (λ (s : Subquery). truth db s.cond s.tables levels) found (Ok t.False) ∷ []))
      else Ok false)
      ≡ false)
      at (holds (One there)))
      here is_true
