-- E6 and E7: with a predicate replaced.
use Rattle.std.proofs.Common.{◌≡◌, ◌∙◌, inl, inr, refl, sym, ap, ℕ, Bool, true, false, not, ◌&&◌, ◌||◌, List, [], ◌∷◌, map}
use Rattle.std.specs.List.{filter}
use Rattle.std.specs.Prelude.{◌↔◌, Ok, Err, cond, if◌then◌else◌}
use Rattle.lint_core.specs.declared.condition.Cond.{Cond}
use Rattle.lint_core.specs.declared.database.Binding.{Binding}
use Rattle.lint_core.specs.declared.database.Database.{Database}
use Rattle.lint_core.specs.declared.database.Points.TheVariants.{One, Two, Without}
use Rattle.lint_core.specs.declared.database.Truth.{Truth}
use Rattle.lint_core.specs.declared.database.Value.{Value}
use Rattle.lint_core.specs.declared.query.Query.{Query}
use Rattle.lint_core.specs.declared.query.Question.{Question}
use Rattle.lint_core.specs.Asked.{main_condition}
use Rattle.lint_core.specs.Condition.{has_truth}
use Rattle.lint_core.specs.Evaluation.{Evaluated}
use Rattle.lint_core.specs.Fits.{main_tables}
use Rattle.lint_core.specs.Question.{HoldsIn, is_known_true, one_is_true, refutes, where_truth}
use Rattle.lint_core.specs.Forms.{is_main_binding}
use Rattle.lint_core.specs.QueryAnswer.{answer}
use Rattle.lint_core.specs.Subqueries.{scalar_subqueries}
use Rattle.lint_core.specs.Truth.{is_true}
use Rattle.answer_laws.proofs.Bindings.{lists, at, is_true_there, row_there, left, main_at, answer_known, truths_known}
use Rattle.answer_laws.proofs.Fewer.{fewer}
use Rattle.meaning_laws.proofs.Members.{Stands}
use Rattle.answer_laws.proofs.OneRow.{given_one}
use Rattle.answer_laws.proofs.Selecting.{IsKnown}
use Rattle.answer_laws.specs.Answers.{AreTrueTogether, HasAnswer, with_predicate}

differ : (a b : Bool) → ((a && not b || b && not a) ≡ false) ↔ (a ≡ b)
differ true true = (λ e. refl, λ e. refl)
differ true false = (λ e. cc, λ e. cc)
differ false true = (λ e. cc, λ e. cc)
differ false false = (λ e. refl, λ e. refl)

-- where both are known, not exactly one is true exactly where both are or neither is
known_same : (form : Bool) (x y : Evaluated Truth) → (form ≡ true → IsKnown x) → (form ≡ true → IsKnown y) →
    (is_known_true (if form then one_is_true x y else Ok false) ≡ false) ↔ (form ≡ true → has_truth is_true x ≡ has_truth is_true y)
known_same false x y one two = (λ e not_so. cc, λ same. refl)
known_same true (Ok t) (Ok u) one two = let both = differ (is_true t) (is_true u) in (λ e form. both.0 e, λ same. both.1 (same refl))
known_same true (Ok t) (Err place) one two = let never = two refl in cc
known_same true (Err place) y one two = let never = one refl in cc

filter_same : {A : Type 0} (p q : A → Bool) (xs : List A) → ((x : A) → Stands x xs → p x ≡ q x) → filter p xs ≡ filter q xs
filter_same p q [] same = refl
filter_same p q (x ∷ xs) same =
    ap (λ b. cond b (x ∷ filter p xs) (filter p xs)) (same x (inl refl))
    ∙ ap (λ ys. cond (q x) (x ∷ ys) ys) (filter_same p q xs (λ y here. same y (inr here)))

module _ (db : Database) (query : Query) (predicate : ℕ) (by : Cond) (none : (tables : List (List ℕ)) → scalar_subqueries by tables ≡ []) (has : HasAnswer db query) where
  abbrev other : Query
  other = with_predicate predicate by query

  -- it has no more scalar subqueries
  also_has : HasAnswer db other
  also_has =
      let one = (given_one db query).0 has in
      (given_one db other).1 (λ s here. one s (fewer by none (main_condition query) predicate (main_tables query) s here))

  -- of a question that asks for that
  pub together : (question : Question) (given : Value) →
      ((one : Binding) → refutes db query question given (One one) ≡ is_known_true (if is_main_binding db query one then one_is_true (where_truth db query one) (where_truth db other one) else Ok false)) →
      ((one two : Binding) → refutes db query question given (Two one two) ≡ false) → ((one : Binding) → refutes db query question given (Without one) ≡ false) →
      HoldsIn db query question given ↔ AreTrueTogether db query other
  together question given is two without =
      let same = λ (one : Binding).
      known_same (is_main_binding db query one) (where_truth db query one) (where_truth db other one) (truths_known db query has.0 has.1 one) (truths_known db other also_has.0 also_has.1 one)
      in (
        λ holds binding. (same binding).0 (sym (is binding) ∙ holds (One binding)),
        λ all points. elim points as (λ points. refutes db query question given points ≡ false) [
          | One one ↦ is one ∙ (same one).1 (all one)
          | Two one second ↦ two one second
          | Without one ↦ without one
        ],
      )

  pub one_answer : AreTrueTogether db query other → answer db other ≡ answer db query
  one_answer all =
      let same = filter_same (is_true_there db query) (is_true_there db other) (lists db query) (λ rows here. all (at db query rows) (main_at db query rows here)) in
      answer_known db other (truths_known db other also_has.0 also_has.1)
      ∙ (ap (λ some. Ok (left db query query.distinct (map (row_there db query) some))) (sym same) ∙ sym (answer_known db query (truths_known db query has.0 has.1)))
