-- That what a question says in the subject's own words is all that it says, where the query has an answer.
use Rattle.std.proofs.Common.{◌≡◌, ◌∙◌, refl, sym, ap, ℕ, Bool, true, false, not, ◌&&◌, List, [], ◌∷◌, map, length}
use Rattle.std.proofs.lemmas.Bool.{and_parts}
use Rattle.std.specs.List.{list_any}
use Rattle.std.specs.Option.{option_map_or}
use Rattle.std.specs.Prelude.{Ok, Err, Option, Some, None, slice_get, is_some, if◌then◌else◌}
use Rattle.lint_base.proofs.Lists.{any_map}
use Rattle.lint_core.specs.declared.database.Database.{Database}
use Rattle.lint_core.specs.declared.database.Points.TheVariants.{One, Two, Without}
use Rattle.lint_core.specs.declared.database.Truth.TheVariants as t
use Rattle.lint_core.specs.declared.database.Value.{Value}
use Rattle.lint_core.specs.declared.database.Value.TheVariants.{Null}
use Rattle.lint_core.specs.declared.query.Query.{Query}
use Rattle.lint_core.specs.declared.query.Question.TheVariants.{NeedlessDistinct, NeedlessJoin, SameRow, NullInNotIn}
use Rattle.lint_core.specs.Asked.{not_ins_of, conjuncts_with, conjuncts_without}
use Rattle.lint_core.specs.Comparison.{is_null}
use Rattle.lint_core.specs.Condition.{truth, term_value}
use Rattle.lint_core.specs.Database.{rows_of, below}
use Rattle.lint_core.specs.Evaluation.{Evaluated, map_ok, all_ok, all_hold}
use Rattle.lint_core.specs.Points.{is_binding, is_same_row, differ_in_entry}
use Rattle.lint_core.specs.Question.{HoldsIn, all_true, are_true_with, is_known_true, table_of, where_is_true, where_truth}
use Rattle.lint_core.specs.Forms.{is_binding_without}
use Rattle.lint_core.specs.Forms.{is_main_binding}
use Rattle.lint_core.specs.QueryAnswer.{answer, one_of_each}
use Rattle.lint_core.specs.Subqueries.{Subquery}
use Rattle.answer_laws.proofs.Bindings.{given_rows, answer_is}
use Rattle.answer_laws.proofs.HoldsAlways.{none_of, or_later}
use Rattle.answer_laws.proofs.OneOfEach.{one_bag_differs}
use Rattle.answer_laws.proofs.OneRow.{known_both}
use Rattle.answer_laws.proofs.Refuting.{differ_holds, known_one}
use Rattle.answer_laws.specs.AlwaysMeans.{HasBag, AreOneRow, SelectsNoNull}
use Rattle.answer_laws.specs.Answers.{times, without_distinct}
use Rattle.answer_laws.specs.FindsOneRow.{FindARow, FindNoTwo}

not_all : (a b c : Bool) → (a ≡ true → b ≡ true → c ≡ false) → (a && (b && c)) ≡ false
not_all false b c leads = refl
not_all true false c leads = refl
not_all true true c leads = leads refl refl

-- ---- E2

module _ (db : Database) (query : Query) (given : Value) where
  pub bag_back : is_some query.distinct ≡ true → (rows : List (List Value)) → answer db query ≡ Ok rows → HasBag db (without_distinct query) rows → HoldsIn db query NeedlessDistinct given
  bag_back asked rows known bag =
      let all = given_rows db query in
      let ones : one_of_each all ≡ rows = sym (ap (λ b. if b then one_of_each all else all) asked) ∙ answer_is db query rows known in
      let each : all ≡ bag.0 = answer_is db (without_distinct query) bag.0 bag.1 in
      differ_holds db query given (one_bag_differs all (λ row. ap (times row) ones ∙ (bag.2 row ∙ sym (ap (times row) each))))

-- ---- E5

known_any : (facts : List (Evaluated Bool)) (known : List Bool) → all_ok facts ≡ Ok known → list_any is_known_true facts ≡ true → list_any (λ fact. fact) known ≡ true
known_any [] known all some = cc
known_any (Err place ∷ facts) known all some = cc
known_any (Ok fact ∷ facts) known all some = at_rest (known_any facts) (all_ok facts) refl all
  where
    at_rest : ((later : List Bool) → all_ok facts ≡ Ok later → list_any is_known_true facts ≡ true → list_any (λ fact. fact) later ≡ true) →
        (rest : Evaluated (List Bool)) → all_ok facts ≡ rest → map_ok (λ later. fact ∷ later) rest ≡ Ok known → list_any (λ fact. fact) known ≡ true
    at_rest leads (Ok later) is made =
        let same : fact ∷ later ≡ known = cc in
        sym (ap (list_any (λ fact. fact)) same) ∙ or_later fact (list_any is_known_true facts) (list_any (λ fact. fact) later) (leads later is) some
    at_rest leads (Err place) is made = cc

not_known : (form : Bool) (others : Evaluated Bool) (facts : List (Evaluated Bool)) →
    (form ≡ true → is_known_true others ≡ true → list_any is_known_true facts ≡ true) →
    is_known_true (if form then all_hold (others ∷ none_of facts ∷ []) else Ok false) ≡ false
not_known false others facts leads = refl
not_known true (Err place) facts leads = refl
not_known true (Ok fit) facts leads = at_facts (all_ok facts) refl
  where
    never_none : (fit some : Bool) → (fit ≡ true → some ≡ true) → (fit && (not some && true)) ≡ false
    never_none false some leads = refl
    never_none true some leads = ap (λ b. not b && true) (leads refl)

    at_facts : (all : Evaluated (List Bool)) → all_ok facts ≡ all →
        is_known_true (all_hold (Ok fit ∷ map_ok (λ fit. not (list_any (λ fits. fits) fit)) all ∷ [])) ≡ false
    at_facts (Ok known) is = never_none fit (list_any (λ fits. fits) known) (λ fits. known_any facts known is (leads refl fits))
    at_facts (Err place) is = refl

module _ (db : Database) (query : Query) (entry : ℕ) (given : Value) where
  pub finds_back : FindARow db query entry → FindNoTwo db query entry → HoldsIn db query (NeedlessJoin entry) given
  finds_back some no_two (One one) = refl
  finds_back some no_two (Two one two) =
      let main = is_main_binding db query one && is_main_binding db query two in
      let form = main && differ_in_entry entry one.levels two.levels in
      known_both form (where_truth db query one) (where_truth db query two)
      ∙ not_all form (where_is_true db query one.levels) (where_is_true db query two.levels) (λ is first.
      let parts = and_parts main (differ_in_entry entry one.levels two.levels) is in
      let both = and_parts (is_main_binding db query one) (is_main_binding db query two) parts.0 in
      no_two one two both.0 both.1 parts.1 first)
  finds_back some no_two (Without others) =
      let count = length (rows_of db (table_of db query entry)) in
      let fits_with = λ (row : ℕ). are_true_with db query entry others row (conjuncts_with entry query) in
      not_known (is_binding_without db query entry others) (are_true_with db query entry others 0 (conjuncts_without entry query)) (map fits_with (below count))
      (λ form fit. any_map fits_with is_known_true (below count) ∙ some others form fit)

-- ---- E8

module _ (db : Database) (query : Query) (entry other : ℕ) (given : Value) where
  pub one_row_back : AreOneRow db query entry other → HoldsIn db query (SameRow entry other) given
  one_row_back are (Two one two) = refl
  one_row_back are (Without one) = refl
  one_row_back are (One one) =
      let same = is_same_row one.levels entry other in
      known_one (is_main_binding db query one) (not same) (where_truth db query one)
      ∙ not_all (is_main_binding db query one) (where_is_true db query one.levels) (not same) (λ main first. ap not (are one main first))

-- ---- E10

module _ (db : Database) (query : Query) (number : ℕ) (given : Value) where
  abbrev refuted_at : Option Subquery → List (List ℕ) → Bool
  refuted_at found levels =
      is_known_true
      (if option_map_or (λ (s : Subquery). is_binding db s.tables levels) found false
      then map_ok (λ here. here && is_null (option_map_or (λ (s : Subquery). term_value db s.tables levels s.item) found Null))
      (all_true (option_map_or (λ (s : Subquery). truth db s.cond s.tables levels) found (Ok t.False) ∷ []))
      else Ok false)

  pub no_null_back : ((sub : Subquery) → slice_get (not_ins_of query) number ≡ Some sub → SelectsNoNull db sub) → HoldsIn db query (NullInNotIn number) given
  no_null_back selects (Two one two) = refl
  no_null_back selects (Without one) = refl
  no_null_back selects (One one) =
      elim (slice_get (not_ins_of query) number) as (λ found. slice_get (not_ins_of query) number ≡ found → refuted_at found one.levels ≡ false) [
        | None ↦ λ none. refl
        | Some s ↦ λ at.
            known_one (is_binding db s.tables one.levels) (is_null (term_value db s.tables one.levels s.item)) (truth db s.cond s.tables one.levels)
            ∙ not_all (is_binding db s.tables one.levels) _ (is_null (term_value db s.tables one.levels s.item)) (selects s at one.levels)
      ]
      refl
