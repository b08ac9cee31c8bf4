-- Which points refute a question, by the rows of their bindings.
use Rattle.std.proofs.Common.{◌≡◌, ◌≢◌, ◌∙◌, refl, sym, ap, subst, ℕ, Bool, true, false, not, ◌&&◌, List, [], ◌∷◌, map}
use Rattle.std.proofs.lemmas.Bool.{and_parts, and_from, false_from_ne_true}
use Rattle.std.proofs.lemmas.Cmp.{nat_list_eq_equiv}
use Rattle.std.specs.Cmp.Lexicographic.{same_text}
use Rattle.std.specs.List.{filter, list_all}
use Rattle.std.specs.Prelude.{◌↔◌, Ok, Err, if◌then◌else◌}
use Rattle.lint_core.specs.declared.database.Binding.{Binding}
use Rattle.lint_core.specs.declared.database.Database.{Database}
use Rattle.lint_core.specs.declared.database.Points.{Points}
use Rattle.lint_core.specs.declared.database.Points.TheVariants.{One, Two, Without}
use Rattle.lint_core.specs.declared.database.Truth.{Truth}
use Rattle.lint_core.specs.declared.database.Value.{Value}
use Rattle.lint_core.specs.declared.query.Item.{Item}
use Rattle.lint_core.specs.declared.query.Query.{Query}
use Rattle.lint_core.specs.declared.query.Question.TheVariants.{NeedlessDistinct}
use Rattle.lint_core.specs.Comparison.{are_not_distinct}
use Rattle.lint_core.specs.Condition.{has_truth}
use Rattle.lint_core.specs.Evaluation.{Evaluated, map_ok}
use Rattle.lint_core.specs.Points.{are_same_rows, is_same_binding}
use Rattle.lint_core.specs.Question.{HoldsIn, all_true, are_same_items, is_known_true, item_value, refutes, where_is_true, where_truth}
use Rattle.lint_core.specs.Forms.{is_main_binding}
use Rattle.lint_core.specs.QueryAnswer.{are_not_distinct_rows}
use Rattle.lint_core.specs.Truth.{is_true}
use Rattle.answer_laws.proofs.Bindings.{lists, at, is_true_there, row_there, given_rows, lists_apart, main_at, at_main}
use Rattle.meaning_laws.proofs.Members.{Stands, stands_filter}
use Rattle.answer_laws.proofs.Listed.{AllDiffer, differ_filter, differ_map, map_differ, filter_stands}
use Rattle.answer_laws.proofs.OneOfEach.{one_row, same_row}

never : false ≡ true → ⊥
never h = cc

-- ---- clauses, where they are known

pub known_true : (form : Bool) (x : Evaluated Truth) → is_known_true (if form then all_true (x ∷ []) else Ok false) ≡ form && has_truth is_true x
known_true false x = refl
known_true true (Err place) = refl
known_true true (Ok t) = elim (is_true t) as (λ b. b && true ≡ b) [ true ↦ refl | false ↦ refl ]

pub known_one : (form fact : Bool) (x : Evaluated Truth) →
    is_known_true (if form then map_ok (λ here. here && fact) (all_true (x ∷ [])) else Ok false) ≡ form && (has_truth is_true x && fact)
known_one false fact x = refl
known_one true fact (Err place) = refl
known_one true fact (Ok t) = elim (is_true t) as (λ b. (b && true) && fact ≡ b && fact) [ true ↦ refl | false ↦ refl ]

known_two : (form fact : Bool) (x y : Evaluated Truth) →
    is_known_true (if form then map_ok (λ both. both && fact) (all_true (x ∷ y ∷ [])) else Ok false) ≡ form && (has_truth is_true x && (has_truth is_true y && fact))
known_two false fact x y = refl
known_two true fact (Err place) y = refl
known_two true fact (Ok t) (Err place) = elim (is_true t) as (λ b. false ≡ b && false) [ true ↦ refl | false ↦ refl ]
known_two true fact (Ok t) (Ok u) =
    elim (is_true t) as (λ b. (b && (is_true u && true)) && fact ≡ b && (is_true u && fact)) [
      | true ↦ elim (is_true u) as (λ b. (b && true) && fact ≡ b && fact) [ true ↦ refl | false ↦ refl ]
      | false ↦ refl
    ]

-- ---- E2

same_items : (one two : Item → Value) (items : List Item) → are_not_distinct_rows (map one items) (map two items) ≡ list_all (λ item. are_not_distinct (one item) (two item)) items
same_items one two [] = refl
same_items one two (item ∷ items) = ap (λ b. are_not_distinct (one item) (two item) && b) (same_items one two items)

other_binding : (a b : List ℕ) → a ≢ b → not (is_same_binding (a ∷ []) (b ∷ [])) ≡ true
other_binding a b apart = rw (false_from_ne_true (are_same_rows a b) (λ same. apart (same_text a b (sym same)))) refl

binding_apart : (a b : List ℕ) → not (is_same_binding (a ∷ []) (b ∷ [])) ≡ true → a ≢ b
binding_apart a b apart same =
    let itself : is_same_binding (a ∷ []) (a ∷ []) ≡ true = and_from (are_same_rows a a) true (nat_list_eq_equiv.refl a) refl in
    never (sym (ap not (subst (λ c. is_same_binding (a ∷ []) (c ∷ []) ≡ true) same itself)) ∙ apart)

six : (a b c d e f : Bool) → ((a && b && c) && (d && (e && f)) ≡ true) ↔ ((a ≡ true) × (b ≡ true) × (c ≡ true) × (d ≡ true) × (e ≡ true) × (f ≡ true))
six a b c d e f = (
  λ all.
      let halves = and_parts (a && b && c) (d && (e && f)) all in
      let first = and_parts (a && b) c halves.0 in
      let start = and_parts a b first.0 in
      let second = and_parts d (e && f) halves.1 in
      let end = and_parts e f second.1 in
      (start.0, start.1, first.1, second.0, end.0, end.1),
  λ each.
      and_from (a && b && c) (d && (e && f)) (and_from (a && b) c (and_from a b each.0 each.1) each.2) (and_from d (e && f) each.3 (and_from e f each.4 each.5)),
)

module _ (db : Database) (query : Query) (given : Value) where
  abbrev rows_there : List (List ℕ)
  rows_there = filter (is_true_there db query) (lists db query)

  abbrev at_two : List ℕ → List ℕ → Points
  at_two a b = Two (at db query a) (at db query b)

  -- two bindings refute E2 where they are not the same, WHERE is true at both, and their items' values are not distinct
  refuted_by_two : (one two : Binding) → (refutes db query NeedlessDistinct given (Two one two) ≡ true)
      ↔ ((is_main_binding db query one ≡ true) × (is_main_binding db query two ≡ true) × (not (is_same_binding one.levels two.levels) ≡ true)
      × (where_is_true db query one.levels ≡ true) × (where_is_true db query two.levels ≡ true) × (are_same_items db query one two ≡ true))
  refuted_by_two one two =
      let main = is_main_binding db query in
      let true_at = λ (b : Binding). where_is_true db query b.levels in
      let apart = not (is_same_binding one.levels two.levels) in
      let alike = are_same_items db query one two in
      let known = known_two (main one && main two && apart) alike (where_truth db query one) (where_truth db query two) in
      let each = six (main one) (main two) apart (true_at one) (true_at two) alike in
      (λ refuted. each.0 (sym known ∙ refuted), λ all. known ∙ each.1 all)

  same_there : (a b : List ℕ) → are_not_distinct_rows (row_there db query a) (row_there db query b) ≡ are_same_items db query (at db query a) (at db query b)
  same_there a b = same_items (item_value db query (at db query a)) (item_value db query (at db query b)) query.items

  pub holds_differ : HoldsIn db query NeedlessDistinct given → AllDiffer (given_rows db query)
  holds_differ holds =
      differ_map (row_there db query) rows_there (differ_filter (is_true_there db query) (lists db query) (lists_apart db query))
      (λ a b one two apart same.
      let first = filter_stands (is_true_there db query) a (lists db query) one in
      let second = filter_stands (is_true_there db query) b (lists db query) two in
      let alike = sym (same_there a b) ∙ same_row (row_there db query a) (row_there db query b) same in
      let refuted =
      (refuted_by_two (at db query a) (at db query b)).1
      (main_at db query a first.0, main_at db query b second.0, other_binding a b apart, first.1, second.1, alike)
      in
      never (sym (holds (at_two a b)) ∙ refuted))

  rows_not_refuted : AllDiffer (given_rows db query) → (a b : List ℕ) → Stands a (lists db query) → Stands b (lists db query) →
      refutes db query NeedlessDistinct given (at_two a b) ≡ true → ⊥
  rows_not_refuted differ a b one two refuted =
      let all = (refuted_by_two (at db query a) (at db query b)).0 refuted in
      let first = stands_filter (is_true_there db query) a (lists db query) all.3 one in
      let second = stands_filter (is_true_there db query) b (lists db query) all.4 two in
      map_differ (row_there db query) rows_there differ a b first second (binding_apart a b all.2)
      (one_row (row_there db query a) (row_there db query b) (same_there a b ∙ all.5))

  pub differ_holds : AllDiffer (given_rows db query) → HoldsIn db query NeedlessDistinct given
  differ_holds differ (One one) = refl
  differ_holds differ (Without one) = refl
  differ_holds differ (Two one two) =
      false_from_ne_true (refutes db query NeedlessDistinct given (Two one two)) (λ refuted.
      let all = (refuted_by_two one two).0 refuted in
      let first = at_main db query one all.0 in
      let second = at_main db query two all.1 in
      rows_not_refuted differ first.0 second.0 first.2 second.2
      (subst (λ b. refutes db query NeedlessDistinct given (Two (at db query first.0) b) ≡ true) second.1
      (subst (λ b. refutes db query NeedlessDistinct given (Two b two) ≡ true) first.1 refuted)))
