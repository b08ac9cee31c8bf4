-- E9 holds of each scalar subquery exactly where each gives at most one row, and so where the query has an answer.
use Rattle.std.proofs.Common.{◌≡◌, ◌∙◌, inl, inr, refl, sym, ap, subst, ℕ, zero, suc, Bool, true, false, ◌&&◌, List, [], ◌∷◌}
use Rattle.std.proofs.lemmas.Bool.{and_parts, and_from, false_from_ne_true}
use Rattle.std.proofs.lemmas.Option.{same_Some}
use Rattle.std.specs.Option.{option_map_or}
use Rattle.std.specs.Prelude.{◌↔◌, Ok, Err, Option, Some, None, slice_get, if◌then◌else◌}
use Rattle.lint_core.specs.declared.database.Binding.{Binding}
use Rattle.lint_core.specs.declared.database.Database.{Database}
use Rattle.lint_core.specs.declared.database.Points.TheVariants.{One, Two, Without}
use Rattle.lint_core.specs.declared.database.Truth.{Truth}
use Rattle.lint_core.specs.declared.database.Truth.TheVariants as t
use Rattle.lint_core.specs.declared.database.Value.TheVariants.{Null}
use Rattle.lint_core.specs.declared.query.Query.{Query}
use Rattle.lint_core.specs.declared.query.Question.TheVariants.{OneRow}
use Rattle.lint_core.specs.Asked.{main_condition, scalars_of}
use Rattle.lint_core.specs.Condition.{has_truth, is_true_at, truth}
use Rattle.lint_core.specs.Evaluation.{Evaluated}
use Rattle.lint_core.specs.Fits.{main_tables}
use Rattle.lint_core.specs.Points.{differ_in_last_level, is_binding}
use Rattle.lint_core.specs.Question.{HoldsIn, all_true, is_known_true}
use Rattle.lint_core.specs.Forms.{is_inner_binding}
use Rattle.lint_core.specs.Subqueries.{Subquery}
use Rattle.lint_core.specs.Truth.{is_true}
use Rattle.answer_laws.proofs.Bindings.{answer_known, truths_known}
use Rattle.meaning_laws.proofs.Members.{Stands}
use Rattle.answer_laws.proofs.Scalars.{AllGiveOne, law}
use Rattle.answer_laws.specs.Answers.{HasAnswer}

never : false ≡ true → ⊥
never h = cc

stands_at : {A : Type 0} (x : A) (xs : List A) → Stands x xs → (i : ℕ) × (slice_get xs i ≡ Some x)
stands_at x [] here = absurd here
stands_at x (y ∷ xs) (inl same) = (zero, ap Some same)
stands_at x (y ∷ xs) (inr more) = let found = stands_at x xs more in (suc found.0, found.1)

at_stands : {A : Type 0} (x : A) (xs : List A) (i : ℕ) → slice_get xs i ≡ Some x → Stands x xs
at_stands x [] i at = cc
at_stands x (y ∷ xs) zero at = inl (same_Some y x at)
at_stands x (y ∷ xs) (suc i) at = inr (at_stands x xs i at)

pub known_both : (form : Bool) (x y : Evaluated Truth) → is_known_true (if form then all_true (x ∷ y ∷ []) else Ok false) ≡ form && (has_truth is_true x && has_truth is_true y)
known_both false x y = refl
known_both true (Err place) y = refl
known_both true (Ok t) (Err place) = elim (is_true t) as (λ b. false ≡ b && false) [ true ↦ refl | false ↦ refl ]
known_both true (Ok t) (Ok u) =
    elim (is_true t) as (λ b. b && (is_true u && true) ≡ b && is_true u) [
      | true ↦ elim (is_true u) as (λ b. b && true ≡ b) [ true ↦ refl | false ↦ refl ]
      | false ↦ refl
    ]

module _ (db : Database) (query : Query) where
  abbrev truth_in : Option Subquery → Binding → Evaluated Truth
  truth_in found binding = option_map_or (λ (s : Subquery). truth db s.cond s.tables binding.levels) found (Ok t.False)

  -- two bindings refute E9 of the subquery, if there is one
  abbrev pub refuted : Option Subquery → Binding → Binding → Bool
  refuted found one two =
      is_known_true
      (if option_map_or (λ s. is_inner_binding db query one s && is_inner_binding db query two s && differ_in_last_level one.levels two.levels) found false
      then all_true (truth_in found one ∷ truth_in found two ∷ [])
      else Ok false)

  -- where both are its bindings, differ in its own level alone, and its condition is true at both
  pub refuted_where : (s : Subquery) (one two : Binding) → (refuted (Some s) one two ≡ true)
      ↔ ((is_binding db s.tables one.levels ≡ true) × (is_binding db s.tables two.levels ≡ true) × (differ_in_last_level one.levels two.levels ≡ true)
      × (is_true_at db s.cond s.tables one.levels ≡ true) × (is_true_at db s.cond s.tables two.levels ≡ true))
  refuted_where s one two =
      let first = is_binding db s.tables one.levels in
      let second = is_binding db s.tables two.levels in
      let differ = differ_in_last_level one.levels two.levels in
      let true_one = is_true_at db s.cond s.tables one.levels in
      let true_two = is_true_at db s.cond s.tables two.levels in
      let known = known_both (first && second && differ) (truth_in (Some s) one) (truth_in (Some s) two) in (
        λ refuted_there.
            let halves = and_parts (first && second && differ) (true_one && true_two) (sym known ∙ refuted_there) in
            let form = and_parts (first && second) differ halves.0 in
            let bound = and_parts first second form.0 in
            let both = and_parts true_one true_two halves.1 in
            (bound.0, bound.1, form.1, both.0, both.1),
        λ all.
            known
            ∙ and_from (first && second && differ) (true_one && true_two) (and_from (first && second) differ (and_from first second all.0 all.1) all.2)
            (and_from true_one true_two all.3 all.4),
      )

  one_row_holds : AllGiveOne db (scalars_of query) → (sub : ℕ) → HoldsIn db query (OneRow sub) Null
  one_row_holds one sub (One binding) = refl
  one_row_holds one sub (Without binding) = refl
  one_row_holds one sub (Two first second) =
      elim (slice_get (scalars_of query) sub) as (λ found. slice_get (scalars_of query) sub ≡ found → refuted found first second ≡ false) [
        | None ↦ λ none. refl
        | Some s ↦ λ at.
            false_from_ne_true (refuted (Some s) first second) (λ is.
            let all = (refuted_where s first second).0 is in
            one s (at_stands s (scalars_of query) sub at) first.levels second.levels all.0 all.1 all.2 all.3 all.4)
      ]
      refl

  holds_one_row : ((sub : ℕ) → HoldsIn db query (OneRow sub) Null) → AllGiveOne db (scalars_of query)
  holds_one_row holds s here one two bound other differ is_true also_true =
      let at = stands_at s (scalars_of query) here in
      let first : Binding = record { levels = one } in
      let second : Binding = record { levels = two } in
      let is = (refuted_where s first second).1 (bound, other, differ, is_true, also_true) in
      never (sym (subst (λ found. refuted found first second ≡ false) at.1 (holds at.0 (Two first second))) ∙ is)

  pub given_one : HasAnswer db query ↔ AllGiveOne db (scalars_of query)
  given_one =
      let each = law db (main_condition query) (main_tables query) in (
        λ has. each.1 (λ levels bound. truths_known db query has.0 has.1 (record { levels = levels }) bound),
        λ one. (_, answer_known db query (λ binding main. each.0 one binding.levels main)),
      )

  pub answered : HasAnswer db query ↔ ((sub : ℕ) → HoldsIn db query (OneRow sub) Null)
  answered = (λ has. one_row_holds (given_one.0 has), λ holds. given_one.1 (holds_one_row holds))
