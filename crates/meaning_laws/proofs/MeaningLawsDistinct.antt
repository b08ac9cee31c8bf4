-- DISTINCT leaves one of each set of rows that are not distinct.
use Rattle.std.proofs.Common.{◌≡◌, ◌∙◌, sym, ap, refl, subst, Bool, true, false, not, ◌||◌, cond, List, [], ◌∷◌}
use Rattle.std.proofs.lemmas.Bool.{and_parts, and_from, false_from_ne_true}
use Rattle.std.proofs.lemmas.Bool.Decides.{Decides-int_eq, same_from_decides}
use Rattle.std.proofs.lemmas.Cmp.{nat_list_eq_equiv}
use Rattle.std.proofs.lemmas.Map.Views.{any-filter_same}
use Rattle.std.specs.Bool.{Decides}
use Rattle.std.specs.Cmp.{IsEquivalence}
use Rattle.std.specs.Cmp.Lexicographic.{pointwise, same_text}
use Rattle.std.specs.List.{AllByRecursion, IsDistinct, filter, list_any}
use Rattle.std.specs.Ordering.{int_eq}
use Rattle.std.specs.Prelude.{nat_eq, Some, None, is_some, if◌then◌else◌, Ok, Err}
use Rattle.lint_base.specs.declared.place.Span.{Span}
use Rattle.lint_core.specs.declared.database.Database.{Database}
use Rattle.lint_core.specs.declared.database.Value.{Value}
use Rattle.lint_core.specs.declared.database.Value.TheVariants.{Null, Int, Text}
use Rattle.lint_core.specs.declared.query.Query.{Query}
use Rattle.lint_core.specs.Comparison.{are_not_distinct}
use Rattle.lint_core.specs.Evaluation.{map_ok}
use Rattle.lint_core.specs.QueryAnswer.{are_not_distinct_rows, one_of_each, all_rows, answer}
use Rattle.lint_core.proofs.Conditions.{true_of_test}

-- ---- values and rows that are not distinct

one_value : (a b : Value) → are_not_distinct a b ≡ true → a ≡ b
one_value Null Null alike = refl
one_value Null (Int n) alike = cc
one_value Null (Text text) alike = cc
one_value (Int a) Null alike = cc
one_value (Int a) (Int b) alike = ap Int ((Decides-int_eq a b).0 (sym (true_of_test (int_eq a b)) ∙ alike))
one_value (Int a) (Text b) alike = cc
one_value (Text a) Null alike = cc
one_value (Text a) (Int b) alike = cc
one_value (Text a) (Text b) alike = ap Text (same_text a b (sym (sym (true_of_test (pointwise nat_eq a b)) ∙ alike)))

itself : (a : Value) → are_not_distinct a a ≡ true
itself Null = refl
itself (Int a) = true_of_test (int_eq a a) ∙ (Decides-int_eq a a).1 refl
itself (Text a) = true_of_test (pointwise nat_eq a a) ∙ nat_list_eq_equiv.refl a

pub value_decides : (a b : Value) → Decides (are_not_distinct a b) (a ≡ b)
value_decides a b = (one_value a b, λ same. subst (λ c. are_not_distinct a c ≡ true) same (itself a))

one_row : (row other : List Value) → are_not_distinct_rows row other ≡ true → row ≡ other
one_row [] [] alike = refl
one_row [] (b ∷ other) alike = cc
one_row (a ∷ row) [] alike = cc
one_row (a ∷ row) (b ∷ other) alike =
    let parts = and_parts (are_not_distinct a b) (are_not_distinct_rows row other) alike in
    let here : a ≡ b = one_value a b parts.0 in
    let later : row ≡ other = one_row row other parts.1 in
    cc

row_itself : (row : List Value) → are_not_distinct_rows row row ≡ true
row_itself [] = refl
row_itself (a ∷ row) = and_from (are_not_distinct a a) (are_not_distinct_rows row row) (itself a) (row_itself row)

pub row_decides : (row other : List Value) → Decides (are_not_distinct_rows row other) (row ≡ other)
row_decides row other = (one_row row other, λ same. subst (λ x. are_not_distinct_rows row x ≡ true) same (row_itself row))

-- a test that decides whether two are one is an equivalence
equivalence : {A : Type 0} (test : A → A → Bool) → ((a b : A) → Decides (test a b) (a ≡ b)) → IsEquivalence test
equivalence test decides = record {
  refl = λ a. (decides a a).1 refl;
  symm = λ a b. same_from_decides (test a b) (test b a) (decides a b) ((λ e. sym ((decides b a).0 e)), λ e. (decides b a).1 (sym e));
  congr = λ a b c same. ap (λ x. test x c) ((decides a b).0 same);
}

pub values_equivalence : IsEquivalence are_not_distinct
values_equivalence = equivalence are_not_distinct value_decides

-- ---- one of each

filter_keeps : {A : Type 0} (P : A → Type 0) (test : A → Bool) (xs : List A) → AllByRecursion P xs → AllByRecursion P (filter test xs)
filter_keeps P test [] all = tt
filter_keeps {A = A} P test (x ∷ xs) all =
    elim (test x) as (λ b. AllByRecursion P (cond b (x ∷ filter test xs) (filter test xs))) [
      | true ↦ (all.0, filter_keeps P test xs all.1)
      | false ↦ filter_keeps P test xs all.1
    ]

-- what a filter by 'not so' leaves is not so
all_not : {A : Type 0} (test : A → Bool) (xs : List A) → AllByRecursion (λ x. test x ≡ false) (filter (λ x. not (test x)) xs)
all_not test [] = tt
all_not test (x ∷ xs) =
    elim (test x) as (λ b. test x ≡ b → AllByRecursion (λ x. test x ≡ false) (cond (not b) (x ∷ filter (λ x. not (test x)) xs) (filter (λ x. not (test x)) xs))) [
      | true ↦ λ is. all_not test xs
      | false ↦ λ is. (is, all_not test xs)
    ]
    refl

filter_distinct : {A : Type 0} (e : A → A → Bool) (test : A → Bool) (xs : List A) → IsDistinct e xs → IsDistinct e (filter test xs)
unfolding IsDistinct
filter_distinct e test [] distinct = tt
filter_distinct e test (x ∷ xs) distinct =
    elim (test x) as (λ b. IsDistinct e (cond b (x ∷ filter test xs) (filter test xs))) [
      | true ↦ (filter_keeps (λ y. e x y ≡ false) test xs distinct.0, filter_distinct e test xs distinct.1)
      | false ↦ filter_distinct e test xs distinct.1
    ]

pub each_once : (rows : List (List Value)) → IsDistinct are_not_distinct_rows (one_of_each rows)
unfolding IsDistinct
each_once [] = tt
each_once (row ∷ rows) = (all_not (are_not_distinct_rows row) (one_of_each rows), filter_distinct are_not_distinct_rows (λ other. not (are_not_distinct_rows row other)) (one_of_each rows) (each_once rows))

or_same : (a b c : Bool) → (a ≡ false → b ≡ c) → (a || b) ≡ (a || c)
or_same true b c same = refl
or_same false b c same = same refl

pub same_rows : (wanted : List Value) (rows : List (List Value)) → list_any (are_not_distinct_rows wanted) (one_of_each rows) ≡ list_any (are_not_distinct_rows wanted) rows
same_rows wanted [] = refl
same_rows wanted (row ∷ rows) =
    or_same (are_not_distinct_rows wanted row) _ (list_any (are_not_distinct_rows wanted) rows) (λ other.
    any-filter_same (are_not_distinct_rows wanted) (λ k. not (are_not_distinct_rows row k)) true
    (λ k found. ap not (false_from_ne_true (are_not_distinct_rows row k) (λ same.
    let one : wanted ≡ k = one_row wanted k found in
    let two : row ≡ k = one_row row k same in
    let alike : are_not_distinct_rows wanted row ≡ true = (row_decides wanted row).1 cc in
    cc)))
    (one_of_each rows)
    ∙ same_rows wanted rows)

-- ---- the answer

module _ (db : Database) (query : Query) where
  pub answer_with : (distinct : Span) → query.distinct ≡ Some distinct → answer db query ≡ map_ok one_of_each (all_rows db query)
  answer_with distinct is = ap (λ d. map_ok (λ rows. if is_some d then one_of_each rows else rows) (all_rows db query)) is

  pub answer_without : query.distinct ≡ None → answer db query ≡ all_rows db query
  answer_without is =
      ap (λ d. map_ok (λ rows. if is_some d then one_of_each rows else rows) (all_rows db query)) is
      ∙ elim (all_rows db query) as (λ rows. map_ok (λ rows. rows) rows ≡ rows) [
        | Ok rows ↦ refl
        | Err place ↦ refl
      ]

  pub distinct_of : (distinct : Span) → query.distinct ≡ Some distinct → (all : List (List Value)) → all_rows db query ≡ Ok all →
      (rows : List (List Value)) × (answer db query ≡ Ok rows) × IsDistinct are_not_distinct_rows rows × ((row : List Value) → list_any (are_not_distinct_rows row) rows ≡ list_any (are_not_distinct_rows row) all)
  distinct_of distinct is all known = (one_of_each all, answer_with distinct is ∙ ap (map_ok one_of_each) known, each_once all, λ row. same_rows row all)

  pub distinct_only : (distinct : Span) → query.distinct ≡ Some distinct → (rows : List (List Value)) → answer db query ≡ Ok rows →
      (all : List (List Value)) × (all_rows db query ≡ Ok all) × IsDistinct are_not_distinct_rows rows × ((row : List Value) → list_any (are_not_distinct_rows row) rows ≡ list_any (are_not_distinct_rows row) all)
  distinct_only distinct is rows known =
      elim (all_rows db query) as (λ found. all_rows db query ≡ found → map_ok one_of_each found ≡ Ok rows →
      (all : List (List Value)) × (all_rows db query ≡ Ok all) × IsDistinct are_not_distinct_rows rows × ((row : List Value) → list_any (are_not_distinct_rows row) rows ≡ list_any (are_not_distinct_rows row) all)) [
        | Ok all ↦ λ is made.
            let same : one_of_each all ≡ rows = cc in
            (all, is, subst (IsDistinct are_not_distinct_rows) same (each_once all), λ row. sym (ap (list_any (are_not_distinct_rows row)) same) ∙ same_rows row all)
        | Err place ↦ λ is made. cc
      ]
      refl (sym (answer_with distinct is) ∙ known)
