-- What DISTINCT leaves of a list of rows.
use Rattle.std.proofs.Common.{◌≡◌, ◌≢◌, ◌∙◌, ◌≤◌, inl, inr, refl, sym, ap, subst, suc, Bool, true, false, not, List, [], ◌∷◌, length, arith}
use Rattle.std.proofs.lemmas.Bool.{false_from_ne_true, or_cases, or_left, or_right}
use Rattle.std.specs.List.{filter}
use Rattle.std.specs.Prelude.{◌↔◌, cond}
use Rattle.lint_core.specs.declared.database.Value.{Value}
use Rattle.lint_core.specs.QueryAnswer.{are_not_distinct_rows, one_of_each}
use Rattle.meaning_laws.proofs.Members.{Stands, stands_filter}
use Rattle.meaning_laws.proofs.MeaningLawsDistinct.{row_decides}
use Rattle.answer_laws.proofs.Listed.{AllDiffer, filter_stands, filter_all, filter_shorter, as_many_pass}
use Rattle.answer_laws.specs.Answers.{is_among, times, AreOneBag}

-- ---- rows that are not distinct are one

pub one_row : (row other : List Value) → are_not_distinct_rows row other ≡ true → row ≡ other
one_row row other = (row_decides row other).0

pub same_row : (row other : List Value) → row ≡ other → are_not_distinct_rows row other ≡ true
same_row row other = (row_decides row other).1

other_row : (row other : List Value) → row ≢ other → are_not_distinct_rows row other ≡ false
other_row row other apart = false_from_ne_true (are_not_distinct_rows row other) (λ alike. apart (one_row row other alike))

-- ---- which rows are left

pub left_stands : (row : List Value) (rows : List (List Value)) → Stands row (one_of_each rows) → Stands row rows
left_stands row [] here = absurd here
left_stands row (first ∷ rows) (inl same) = inl same
left_stands row (first ∷ rows) (inr more) = inr (left_stands row rows (filter_stands (λ other. not (are_not_distinct_rows first other)) row (one_of_each rows) more).0)

pub stands_left : (row : List Value) (rows : List (List Value)) → Stands row rows → Stands row (one_of_each rows)
stands_left row [] here = absurd here
stands_left row (first ∷ rows) (inl same) = inl same
stands_left row (first ∷ rows) (inr more) =
    elim (are_not_distinct_rows first row) as (λ b. are_not_distinct_rows first row ≡ b → Stands row (one_of_each (first ∷ rows))) [
      | true ↦ λ alike. inl (one_row first row alike)
      | false ↦ λ apart. inr (stands_filter (λ other. not (are_not_distinct_rows first other)) row (one_of_each rows) (ap not apart) (stands_left row rows more))
    ]
    refl

-- all are left where none stands twice
pub all_left : (rows : List (List Value)) → AllDiffer rows → one_of_each rows ≡ rows
all_left [] differ = refl
all_left (row ∷ rows) differ =
    ap (λ rest. row ∷ rest)
    (ap (filter (λ other. not (are_not_distinct_rows row other))) (all_left rows differ.1)
    ∙ filter_all (λ other. not (are_not_distinct_rows row other)) rows (λ other here. ap not (other_row row other (differ.0 other here))))

pub among_stands : (row : List Value) (rows : List (List Value)) → (is_among rows row ≡ true) ↔ Stands row rows
among_stands row [] = (λ here. cc, λ here. absurd here)
among_stands row (first ∷ rows) = (
  λ here. elim (or_cases (are_not_distinct_rows row first) (is_among rows row) here) [
    | inl same ↦ inl (sym (one_row row first same))
    | inr more ↦ inr ((among_stands row rows).0 more)
  ],
  λ here. elim here [
    | inl same ↦ or_left (are_not_distinct_rows row first) (is_among rows row) (same_row row first (sym same))
    | inr more ↦ or_right (are_not_distinct_rows row first) (is_among rows row) ((among_stands row rows).1 more)
  ],
)

-- ---- bags

times_same : (row first : List Value) (rows : List (List Value)) → row ≡ first → times row (first ∷ rows) ≡ suc (times row rows)
times_same row first rows same = rw (same_row row first same) refl

times_other : (row first : List Value) (rows : List (List Value)) → row ≢ first → times row (first ∷ rows) ≡ times row rows
times_other row first rows apart = rw (other_row row first apart) refl

times_none : (row : List Value) (rows : List (List Value)) → ((other : List Value) → Stands other rows → row ≢ other) → times row rows ≡ 0
times_none row [] apart = refl
times_none row (first ∷ rows) apart = times_other row first rows (apart first (inl refl)) ∙ times_none row rows (λ other here. apart other (inr here))

-- one more row in front, in both
times_behind : (row first : List Value) (rows others : List (List Value)) → times row (first ∷ rows) ≡ times row (first ∷ others) → times row rows ≡ times row others
times_behind row first rows others =
    elim (are_not_distinct_rows row first) as (λ b.
    length (cond b (first ∷ filter (are_not_distinct_rows row) rows) (filter (are_not_distinct_rows row) rows))
    ≡ length (cond b (first ∷ filter (are_not_distinct_rows row) others) (filter (are_not_distinct_rows row) others)) → times row rows ≡ times row others) [
      | true ↦ λ as_often. omega arith
      | false ↦ λ as_often. as_often
    ]

none_stands : (row : List Value) (rows : List (List Value)) → times row rows ≡ 0 → Stands row rows → ⊥
none_stands row [] none here = here
none_stands row (first ∷ rows) none (inl same) = let more = times_same row first rows (sym same) in omega arith
none_stands row (first ∷ rows) none (inr more) =
    none_stands row rows
    (elim (are_not_distinct_rows row first) as (λ b. length (cond b (first ∷ filter (are_not_distinct_rows row) rows) (filter (are_not_distinct_rows row) rows)) ≡ 0 → times row rows ≡ 0) [
      | true ↦ λ never. absurd (omega arith)
      | false ↦ λ still. still
    ]
    none)
    more

module _ (row : List Value) (rows : List (List Value)) where
  abbrev is_other : List Value → Bool
  is_other other = not (are_not_distinct_rows row other)

  rest_apart : (other : List Value) → Stands other (filter is_other (one_of_each rows)) → row ≢ other
  rest_apart other here same =
      let passes : not (are_not_distinct_rows row other) ≡ true = (filter_stands is_other other (one_of_each rows) here).1 in
      let never : false ≡ true = sym (ap not (same_row row other same)) ∙ passes in
      cc

  rest_same : ((other : List Value) → Stands other rows → row ≢ other) → filter is_other (one_of_each rows) ≡ one_of_each rows
  rest_same apart = filter_all is_other (one_of_each rows) (λ other here. ap not (other_row row other (apart other (left_stands other rows here))))

  -- as often in the rows as in what is left of them
  apart_by_times : times row (one_of_each (row ∷ rows)) ≡ times row (row ∷ rows) → (other : List Value) → Stands other rows → row ≢ other
  apart_by_times as_often other here same =
      let none = times_none row (filter is_other (one_of_each rows)) rest_apart in
      let first = times_same row row (filter is_other (one_of_each rows)) refl in
      let second = times_same row row rows refl in
      none_stands row rows (omega arith) (subst (λ r. Stands r rows) (sym same) here)

pub one_bag_differs : (rows : List (List Value)) → AreOneBag (one_of_each rows) rows → AllDiffer rows
one_bag_differs [] bag = tt
one_bag_differs (row ∷ rows) bag =
    let apart = apart_by_times row rows (bag row) in (
      apart,
      one_bag_differs rows (λ other.
          sym (ap (times other) (rest_same row rows apart)) ∙ times_behind other row (filter (λ r. not (are_not_distinct_rows row r)) (one_of_each rows)) rows (bag other)),
    )

left_shorter : (rows : List (List Value)) → length (one_of_each rows) ≤ length rows
left_shorter [] = omega arith
left_shorter (row ∷ rows) =
    let less = left_shorter rows in
    let other = filter_shorter (λ r. not (are_not_distinct_rows row r)) (one_of_each rows) in
    omega arith

pub as_many_differ : (rows : List (List Value)) → length (one_of_each rows) ≡ length rows → AllDiffer rows
as_many_differ [] many = tt
as_many_differ (row ∷ rows) many =
    let less = left_shorter rows in
    let other = filter_shorter (λ r. not (are_not_distinct_rows row r)) (one_of_each rows) in
    let pass = as_many_pass (λ r. not (are_not_distinct_rows row r)) (one_of_each rows) (omega arith) in (
      λ r here same.
          let passes : not (are_not_distinct_rows row r) ≡ true = pass r (stands_left r rows here) in
          let never : false ≡ true = sym (ap not (same_row row r same)) ∙ passes in
          cc,
      as_many_differ rows (omega arith),
    )
