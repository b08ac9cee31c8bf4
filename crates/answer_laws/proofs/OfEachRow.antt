-- The questions that ask of each row: E1, E3 and E4.
use Rattle.std.proofs.Common.{◌≡◌, ◌∙◌, refl, sym, ap, ℕ, zero, suc, Bool, true, false, not, ◌&&◌, List, [], ◌∷◌, map}
use Rattle.std.proofs.lemmas.Bool.{and_parts, and_from, false_from_ne_true}
use Rattle.std.specs.List.{filter, list_all}
use Rattle.std.specs.Option.{option_map_or}
use Rattle.std.specs.Prelude.{◌↔◌, Ok, slice_get}
use Rattle.lint_core.specs.declared.database.Binding.{Binding}
use Rattle.lint_core.specs.declared.database.Database.{Database}
use Rattle.lint_core.specs.declared.database.Points.TheVariants.{One, Two, Without}
use Rattle.lint_core.specs.declared.database.Value.{Value}
use Rattle.lint_core.specs.declared.database.Value.TheVariants.{Null}
use Rattle.lint_core.specs.declared.query.Query.{Query}
use Rattle.lint_core.specs.declared.query.Question.{Question}
use Rattle.lint_core.specs.declared.query.Question.TheVariants.{Empty, Constant, Duplicate}
use Rattle.lint_core.specs.Comparison.{are_not_distinct}
use Rattle.lint_core.specs.Question.{HoldsIn, item_value, refutes, value_of_item, where_is_true, where_truth}
use Rattle.lint_core.specs.Forms.{is_main_binding}
use Rattle.lint_core.specs.QueryAnswer.{answer}
use Rattle.answer_laws.proofs.Bindings.{lists, at, is_true_there, row_there, given_rows, main_at, at_main, answer_stands}
use Rattle.meaning_laws.proofs.Members.{Stands, stands_map, stands_filter}
use Rattle.answer_laws.proofs.Listed.{map_stands, filter_stands, all_stand}
use Rattle.answer_laws.proofs.Refuting.{known_true, known_one}
use Rattle.answer_laws.specs.Answers.{row_of, value_in}

never : false ≡ true → ⊥
never h = cc

and-true : (b : Bool) → b && true ≡ b
and-true true = refl
and-true false = refl

module _ (db : Database) (query : Query) (question : Question) (given : Value) (test : List Value → Bool) where
  -- a binding refutes the question where WHERE is true and its row fails the test, and no other points do
  abbrev pub IsOfEachRow : Type 0
  IsOfEachRow =
      ((one : Binding) → refutes db query question given (One one)
      ≡ is_main_binding db query one && (where_is_true db query one.levels && not (test (row_of db query one))))
      × ((one two : Binding) → refutes db query question given (Two one two) ≡ false)
      × ((one : Binding) → refutes db query question given (Without one) ≡ false)

  holds_each : IsOfEachRow → HoldsIn db query question given → (row : List Value) → Stands row (given_rows db query) → test row ≡ true
  holds_each is holds row here =
      let found = map_stands (row_there db query) row (filter (is_true_there db query) (lists db query)) here in
      let passes = filter_stands (is_true_there db query) found.0 (lists db query) found.1 in
      let one = at db query found.0 in
      elim (test (row_of db query one)) as (λ b. test (row_of db query one) ≡ b → test row ≡ true) [
        | true ↦ λ so. ap test (sym found.2) ∙ so
        | false ↦ λ fails.
            let refuted = is.0 one ∙ and_from _ _ (main_at db query found.0 passes.0) (and_from _ _ passes.1 (ap not fails)) in
            absurd (never (sym (holds (One one)) ∙ refuted))
      ]
      refl

  each_holds : IsOfEachRow → ((row : List Value) → Stands row (given_rows db query) → test row ≡ true) → HoldsIn db query question given
  each_holds is each (Two one two) = is.1 one two
  each_holds is each (Without one) = is.2 one
  each_holds is each (One one) =
      false_from_ne_true (refutes db query question given (One one)) (λ refuted.
      let parts = and_parts _ _ (sym (is.0 one) ∙ refuted) in
      let true_there = and_parts _ _ parts.1 in
      let level = at_main db query one parts.0 in
      let passes = stands_filter (is_true_there db query) level.0 (lists db query) (ap (λ (b : Binding). where_is_true db query b.levels) (sym level.1) ∙ true_there.0) level.2 in
      let so = each (row_there db query level.0) (stands_map (row_there db query) level.0 (filter (is_true_there db query) (lists db query)) passes) in
      never (sym (ap not (ap (λ b. test (row_of db query b)) level.1 ∙ so)) ∙ true_there.1))

  pub of_each : IsOfEachRow → (rows : List (List Value)) → answer db query ≡ Ok rows → HoldsIn db query question given ↔ (list_all test rows ≡ true)
  of_each is rows known = (
    λ holds. (all_stand test rows).1 (λ row here. holds_each is holds row ((answer_stands db query rows known row).0 here)),
    λ all. each_holds is (λ row here. (all_stand test rows).0 all row ((answer_stands db query rows known row).1 here)),
  )

-- ---- E1: no row passes

none_pass : (rows : List (List Value)) → list_all (λ row. false) rows ≡ true → rows ≡ []
none_pass [] all = refl
none_pass (row ∷ rows) all = cc

module _ (db : Database) (query : Query) (given : Value) where
  empty_is : IsOfEachRow db query Empty given (λ row. false)
  empty_is = (
    λ one.
        known_true (is_main_binding db query one) (where_truth db query one)
        ∙ ap (λ b. is_main_binding db query one && b) (sym (and-true (where_is_true db query one.levels))),
    λ one two. refl,
    λ one. refl,
  )

  pub empty_holds : (rows : List (List Value)) → answer db query ≡ Ok rows → HoldsIn db query Empty given ↔ (rows ≡ [])
  empty_holds rows known =
      let each = of_each db query Empty given (λ row. false) empty_is rows known in
      (λ holds. none_pass rows (each.0 holds), λ none. each.1 (ap (list_all (λ row. false)) none))

-- ---- E3 and E4: the values in a row

value_there : {A : Type 0} (f : A → Value) (items : List A) (item : ℕ) → value_in (map f items) item ≡ option_map_or f (slice_get items item) Null
value_there f [] item = refl
value_there f (x ∷ items) zero = refl
value_there f (x ∷ items) (suc item) = value_there f items item

module _ (db : Database) (query : Query) (item : ℕ) where
  value_is : (one : Binding) → value_of_item db query one item ≡ value_in (row_of db query one) item
  value_is one = sym (value_there (item_value db query one) query.items item)

  constant_is : (given : Value) → IsOfEachRow db query (Constant item) given (λ row. are_not_distinct (value_in row item) given)
  constant_is given = (
    λ one.
        known_one (is_main_binding db query one) (not (are_not_distinct (value_of_item db query one item) given)) (where_truth db query one)
        ∙ ap (λ v. is_main_binding db query one && (where_is_true db query one.levels && not (are_not_distinct v given))) (value_is one),
    λ one two. refl,
    λ one. refl,
  )

  pub constant_holds : (given : Value) (rows : List (List Value)) → answer db query ≡ Ok rows →
      HoldsIn db query (Constant item) given ↔ (list_all (λ row. are_not_distinct (value_in row item) given) rows ≡ true)
  constant_holds given = of_each db query (Constant item) given (λ row. are_not_distinct (value_in row item) given) (constant_is given)

module _ (db : Database) (query : Query) (item other : ℕ) (given : Value) where
  duplicate_is : IsOfEachRow db query (Duplicate item other) given (λ row. are_not_distinct (value_in row item) (value_in row other))
  duplicate_is = (
    λ one.
        let main = is_main_binding db query one in
        let true_there = where_is_true db query one.levels in
        known_one main (not (are_not_distinct (value_of_item db query one item) (value_of_item db query one other))) (where_truth db query one)
        ∙ (ap (λ v. main && (true_there && not (are_not_distinct v (value_of_item db query one other)))) (value_is db query item one)
        ∙ ap (λ v. main && (true_there && not (are_not_distinct (value_in (row_of db query one) item) v))) (value_is db query other one)),
    λ one two. refl,
    λ one. refl,
  )

  pub duplicate_holds : (rows : List (List Value)) → answer db query ≡ Ok rows →
      HoldsIn db query (Duplicate item other) given ↔ (list_all (λ row. are_not_distinct (value_in row item) (value_in row other)) rows ≡ true)
  duplicate_holds = of_each db query (Duplicate item other) given (λ row. are_not_distinct (value_in row item) (value_in row other)) duplicate_is
