-- The bindings of a query's FROM entries, and the rows that they give.
use Rattle.std.proofs.Common.{◌≡◌, ◌∙◌, refl, sym, ap, subst, ℕ, Bool, true, false, List, [], ◌∷◌, map}
use Rattle.std.proofs.lemmas.Bool.{and_from}
use Rattle.std.specs.List.{filter}
use Rattle.std.specs.Prelude.{◌↔◌, Ok, Option, is_some, if◌then◌else◌}
use Rattle.lint_base.specs.declared.place.Span.{Span}
use Rattle.lint_core.specs.declared.database.Binding.{Binding}
use Rattle.lint_core.specs.declared.database.Database.{Database}
use Rattle.lint_core.specs.declared.database.Value.{Value}
use Rattle.lint_core.specs.declared.query.Query.{Query}
use Rattle.lint_core.specs.Asked.{main_condition, main_entries}
use Rattle.lint_core.specs.Condition.{Inner, selected}
use Rattle.lint_core.specs.Database.{row_lists}
use Rattle.lint_core.specs.Evaluation.{map_ok}
use Rattle.lint_core.specs.Fits.{tables_of}
use Rattle.lint_core.specs.Points.{are_rows}
use Rattle.lint_core.specs.Question.{where_is_true, where_truth}
use Rattle.lint_core.specs.Forms.{is_main_binding}
use Rattle.lint_core.specs.QueryAnswer.{all_rows, answer, one_of_each, row_at}
use Rattle.answer_laws.proofs.Inside.{one_level}
use Rattle.meaning_laws.proofs.Members.{Stands, stands_map, stands_filter}
use Rattle.answer_laws.proofs.Listed.{AllDiffer, map_stands, filter_stands}
use Rattle.answer_laws.proofs.OneOfEach.{left_stands, stands_left}
use Rattle.answer_laws.proofs.RowLists.{lists_differ, lists_give}
use Rattle.answer_laws.proofs.Selecting.{inner, ok_parts, some_selected, truths_of_some}
use Rattle.answer_laws.specs.Answers.{HasTruths, IsGiven, row_of}

map_twice : {A B C : Type 0} (g : B → C) (f : A → B) (xs : List A) → map g (map f xs) ≡ map (λ x. g (f x)) xs
map_twice g f [] = refl
map_twice g f (x ∷ xs) = ap (λ ys. g (f x) ∷ ys) (map_twice g f xs)

module _ (db : Database) (query : Query) where
  abbrev own : List ℕ
  own = tables_of (main_entries query)

  abbrev pub lists : List (List ℕ)
  lists = row_lists db own

  abbrev pub at : List ℕ → Binding
  at rows = record { levels = rows ∷ [] }

  abbrev pub is_true_there : List ℕ → Bool
  is_true_there rows = where_is_true db query (rows ∷ [])

  abbrev pub row_there : List ℕ → List Value
  row_there rows = row_of db query (at rows)

  -- the rows of the bindings at which WHERE is true
  abbrev pub given_rows : List (List Value)
  given_rows = map row_there (filter is_true_there lists)

  pub lists_apart : AllDiffer lists
  lists_apart = lists_differ db own

  pub main_at : (rows : List ℕ) → Stands rows lists → is_main_binding db query (at rows) ≡ true
  main_at rows here = and_from (are_rows db own rows) true (lists_give db own rows here) refl

  pub at_main : (binding : Binding) → is_main_binding db query binding ≡ true → (rows : List ℕ) × (binding ≡ at rows) × Stands rows lists
  at_main binding main =
      let level = one_level db own binding.levels main in
      (level.0, ap (λ levels. let as_binding : Binding = record { levels = levels } in as_binding) level.1, level.2)

  pub given_stands : (row : List Value) → Stands row given_rows ↔ IsGiven db query row
  given_stands row = (
    λ here.
        let found = map_stands row_there row (filter is_true_there lists) here in
        let passes = filter_stands is_true_there found.0 lists found.1 in
        (at found.0, main_at found.0 passes.0, passes.1, found.2),
    λ given.
        let level = at_main given.0 given.1 in
        let true_there = ap (λ (b : Binding). where_is_true db query b.levels) (sym level.1) ∙ given.2 in
        let row_is = ap (row_of db query) (sym level.1) ∙ given.3 in
        subst (λ row. Stands row given_rows) row_is (stands_map row_there level.0 (filter is_true_there lists) (stands_filter is_true_there level.0 lists true_there level.2)),
  )

  -- ---- the answer

  abbrev inner_there : List ℕ → Inner
  inner_there = inner db (main_condition query) [] [] own

  abbrev pub left : Option Span → List (List Value) → List (List Value)
  left distinct rows = if is_some distinct then one_of_each rows else rows

  all_known : HasTruths db query → all_rows db query ≡ Ok given_rows
  all_known known =
      ap (map_ok (map (row_at db query))) (some_selected db (main_condition query) [] [] own lists (λ rows here. known (at rows) (main_at rows here)))
      ∙ ap Ok (map_twice (row_at db query) inner_there (filter is_true_there lists))

  pub answer_known : HasTruths db query → answer db query ≡ Ok (left query.distinct given_rows)
  answer_known known = ap (map_ok (left query.distinct)) (all_known known)

  pub truths_known : (rows : List (List Value)) → answer db query ≡ Ok rows → HasTruths db query
  truths_known rows known binding main =
      let all = ok_parts (left query.distinct) (all_rows db query) rows known in
      let kept = ok_parts (map (row_at db query)) (selected (map inner_there lists)) all.0 all.1 in
      let level = at_main binding main in
      let found = truths_of_some db (main_condition query) [] [] own lists kept.0 kept.1 level.0 level.2 in
      (found.0, ap (where_truth db query) level.1 ∙ found.1)

  pub answer_is : (rows : List (List Value)) → answer db query ≡ Ok rows → left query.distinct given_rows ≡ rows
  answer_is rows known =
      let same : Ok (left query.distinct given_rows) ≡ Ok rows = sym (answer_known (truths_known rows known)) ∙ known in
      cc

  -- with DISTINCT or without
  left_same : (distinct : Option Span) (row : List Value) → Stands row (left distinct given_rows) ↔ Stands row given_rows
  left_same distinct row =
      elim (is_some distinct) as (λ b. Stands row (if b then one_of_each given_rows else given_rows) ↔ Stands row given_rows) [
        | true ↦ (left_stands row given_rows, stands_left row given_rows)
        | false ↦ (λ here. here, λ here. here)
      ]

  pub answer_stands : (rows : List (List Value)) → answer db query ≡ Ok rows → (row : List Value) → Stands row rows ↔ Stands row given_rows
  answer_stands rows known row = subst (λ rows. Stands row rows ↔ Stands row given_rows) (answer_is rows known) (left_same query.distinct row)
