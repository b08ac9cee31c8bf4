-- Right answers keep their word.
use Rattle.std.proofs.Common.{◌≡◌, ◌∙◌, ap, refl, sym, subst, ℕ, ◌+◌, Bool, true, false, List, [], ◌∷◌, take, arith}
use Rattle.std.proofs.lemmas.List.Elements.{All-cons, All-head, All-nil, All-rest}
use Rattle.std.proofs.lemmas.Option.{same_Some}
use Rattle.std.specs.Prelude.{Option, Some, None, slice_get}
use Rattle.std.specs.Option.{option_map_or}
use Rattle.lint_core.specs.declared.certificate.Cert.{Cert}
use Rattle.lint_core.specs.declared.database.Binding.{Binding}
use Rattle.lint_core.specs.declared.database.Counter.{Counter}
use Rattle.lint_core.specs.declared.database.Points.TheVariants.{One}
use Rattle.lint_core.specs.declared.database.Value.{Value}
use Rattle.lint_core.specs.declared.database.Value.TheVariants.{Null}
use Rattle.lint_core.specs.declared.query.Query.{Query}
use Rattle.lint_core.specs.declared.query.Question.{Question}
use Rattle.lint_core.specs.declared.query.Question.TheVariants.{OneRow, Empty, NeedlessDistinct, Constant, Duplicate, NeedlessJoin, Implied, Impossible, SameRow, NullInNotIn}
use Rattle.lint_core.specs.declared.run.Answer.{Answer}
use Rattle.lint_core.specs.declared.run.Answer.TheVariants.{Always, NotAlways, Moot, Blocked, CyclicKeys, CyclicNesting, Large, Spent}
use Rattle.lint_core.specs.declared.schema.Table.{Table}
use Rattle.lint_core.specs.Asked.{candidates, is_asked, questions}
use Rattle.lint_core.specs.Meets.{meets}
use Rattle.lint_core.specs.Question.{HoldsAlways, HoldsIn, refutes, value_of_item}
use Rattle.sort_formula.specs.Certificate.{accepts}
use Rattle.sort_formula.specs.Counters.{counter_sentence}
use Rattle.sorted_skolem.specs.Graph.{IsOrder}
use Rattle.case_split.specs.Answers.{HasSpent}
use Rattle.ground_laws.proofs.Orders.{one_order}
use Rattle.answer_laws.specs.AlwaysMeans.{AlwaysMeans}
use Rattle.lint_engine.specs.Asking.{Numbers, IsAskAnswer}
use Rattle.lint_engine.specs.AskingAll.{AreRightAnswers, IsAlone, IsByCause, IsConstantAnswer, IsNext, IsOwnAnswer, IsProved, IsRefuted}
use Rattle.lint_engine.specs.Earlier.{Answered, answered, blocker, empty_counter, given_for, is_constant, is_moot, value_at}
use Rattle.lint_engine.specs.JudgedBy.{sentences_for, clauses_for, frame_for}
use Rattle.lint_engine.specs.Limits.{IsTooLarge}
use Rattle.lint_engine.proofs.Causes.{never_large}
use Rattle.lint_engine.proofs.ConstantValue.{constant_value}
use Rattle.lint_engine.proofs.EarlierHold.{passes}
use Rattle.lint_engine.proofs.Going.{placed}
use Rattle.verdict_laws.specs.Headline.{is_put, is_verdict, IsProvedAlways, IsShownNotAlways, IsDecidable, IsAnsweredAt, Headline}
use Rattle.verdict_laws.proofs.Fronts.{answer_of, answered_front, right_front}
use Rattle.verdict_laws.proofs.Refuted.{has_other, has_this, never_holds}

abbrev one : ℕ → Question → Answer → Answered
one n q a = record { number = n; question = q; answer = a }

module _ (schema : List Table) (query : Query) (number budget : ℕ) (answers : List Answer) (are : AreRightAnswers schema query number budget answers) where
  abbrev all : List Answered
  all = answered 1 (questions schema query) answers

  abbrev earlier : ℕ → List Answered
  earlier place = take place all

  abbrev Next : ℕ → Question → Answer → Type 0
  Next place question answer = IsNext schema query number budget (earlier place) (one (1 + place) question answer)

  next : (place : ℕ) (question : Question) (answer : Answer) → IsAnsweredAt schema query number budget answers place question answer → Next place question answer
  next place question answer at =
      let own = placed schema query number budget (questions schema query) answers 1 [] place question are at.asked in
      let same : own.answer ≡ answer = same_Some own.answer answer (sym (answer_of (questions schema query) answers 1 place (one (1 + place) question own.answer) own.stands) ∙ at.told) in
      subst (Next place question) same own.is

  -- an answer of a question that is put is right as it is
  alone : (place : ℕ) (question : Question) (answer : Answer) → is_put answer ≡ true → Next place question answer →
      (IsAlone schema query number budget (is_constant question) (earlier place) (one (1 + place) question answer)) × (blocker (earlier place) question ≡ None) × (is_moot (earlier place) question ≡ false)
  alone place question answer put is = by (blocker (earlier place) question) (is_moot (earlier place) question) is
    where
      never : (other : Answer) → answer ≡ other → is_put other ≡ false → ⊥
      never other same other_put = let both : true ≡ false = sym put ∙ (ap is_put same ∙ other_put) in cc

      by : (o : Option ℕ) (b : Bool) → IsByCause schema query number budget o b (earlier place) (one (1 + place) question answer) →
          (IsAlone schema query number budget (is_constant question) (earlier place) (one (1 + place) question answer)) × (o ≡ None) × (b ≡ false)
      by (Some n) b is = absurd (never (Blocked n) is refl)
      by None true is = absurd (never Moot is refl)
      by None false is = (is, refl, refl)

  abbrev given : ℕ → Question → Value
  given place question = given_for query (earlier place) question

  abbrev numbers : ℕ → Numbers
  numbers place = record { query = number; question = 1 + place }

  -- an answer but `not always` of a constant column is as of any question
  own_of : (place : ℕ) (question : Question) (answer : Answer) → ((counters : List Counter) → answer ≡ NotAlways counters → ⊥) →
      IsAlone schema query number budget (is_constant question) (earlier place) (one (1 + place) question answer) →
      IsOwnAnswer schema query question (given place question) (numbers place) budget answer
  own_of place question answer other is = by (is_constant question) answer other is
    where
      by : (b : Bool) (a : Answer) → ((counters : List Counter) → a ≡ NotAlways counters → ⊥) → IsAlone schema query number budget b (earlier place) (one (1 + place) question a) →
          IsOwnAnswer schema query question (given place question) (numbers place) budget a
      by false a other is = is
      by true (Always cert) other is = is
      by true (NotAlways counters) other is = absurd (other counters refl)
      by true Moot other is = is
      by true (Blocked n) other is = is
      by true (CyclicKeys cycle counter key) other is = is
      by true (CyclicNesting cycle) other is = is
      by true (Large rows clauses) other is = is
      by true (Spent tried) other is = is

  -- ---- always

  module _ (means : (schema : List Table) (query : Query) (question : Question) (value : Value) → is_asked schema query question ≡ true → HoldsAlways schema query question value → AlwaysMeans schema query question value) where
    always : (place : ℕ) (question : Question) (cert : Cert) → IsAnsweredAt schema query number budget answers place question (Always cert) →
        IsProvedAlways schema query question cert × (cert.query ≡ number) × (cert.question ≡ place + 1)
    always place question cert at =
        let proved : IsProved schema query question (given place question) (numbers place) cert =
        own_of place question (Always cert) (λ counters same. cc) (alone place question (Always cert) refl (next place question (Always cert) at)).0 in
        let value : given place question ≡ cert.value = sym proved.certificate.names_value in
        let asked : is_asked schema query question ≡ true = passes (is_asked schema query) (candidates query) place question at.asked in
        let more : 1 + place ≡ place + 1 = omega arith in (
          record {
            means = means schema query question cert.value asked (subst (HoldsAlways schema query question) value proved.holds);
            accepted = subst (λ v. accepts schema (counter_sentence schema query question v) cert.steps ≡ true) value proved.certificate.accepted;
          },
          proved.certificate.names_query,
          proved.certificate.names_question ∙ more,
        )

  -- ---- not always

  abbrev Meets : Counter → Type 0
  Meets c = meets schema c.database ≡ true

  shown_other : (place : ℕ) (question : Question) (counters : List Counter) → is_constant question ≡ false →
      IsAlone schema query number budget (is_constant question) (earlier place) (one (1 + place) question (NotAlways counters)) → IsShownNotAlways schema query question counters
  shown_other place question counters other is =
      by counters (subst (λ b. IsAlone schema query number budget b (earlier place) (one (1 + place) question (NotAlways counters))) other is)
    where
      by : (cs : List Counter) → IsOwnAnswer schema query question (given place question) (numbers place) budget (NotAlways cs) → IsShownNotAlways schema query question cs
      by [] is = absurd is
      by (counter ∷ []) is = record {
        meet = All-cons Meets counter [] is.counter_is.meets_schema (All-nil Meets);
        fails = λ value hold.
            never_holds counter.database query question other (given place question) value counter.points is.fails
            (All-head (λ (c : Counter). HoldsIn c.database query question value) counter [] hold);
      }
      by (counter ∷ second ∷ cs) is = absurd is

  -- E1's database, in which the column has the given value, and one in which it has another
  two_values : (item : ℕ) (value : Value) (counter second : Counter) → IsRefuted schema query Empty Null counter → (binding : Binding) → counter.points ≡ One binding →
      value ≡ value_at counter.database query item counter.points → IsRefuted schema query (Constant item) value second → IsShownNotAlways schema query (Constant item) (counter ∷ second ∷ [])
  two_values item value counter second first binding at is other = record {
    meet = All-cons Meets counter (second ∷ []) first.counter_is.meets_schema (All-cons Meets second [] other.counter_is.meets_schema (All-nil Meets));
    fails = λ said hold.
        let Holds : Counter → Type 0 = λ (c : Counter). HoldsIn c.database query (Constant item) said in
        let here : value_of_item counter.database query binding item ≡ said =
        has_this counter.database query item said binding (subst (λ points. refutes counter.database query Empty Null points ≡ true) at first.fails) (All-head Holds counter (second ∷ []) hold) in
        let same : value ≡ said = is ∙ (ap (value_at counter.database query item) at ∙ here) in
        has_other second.database query item value second.points other.fails
        (subst (λ v. HoldsIn second.database query (Constant item) v) (sym same) (All-head Holds second [] (All-rest Holds counter (second ∷ []) (counter ∷ second ∷ []) refl hold)));
  }

  shown_constant : (place item : ℕ) (counters : List Counter) → slice_get (questions schema query) place ≡ Some (Constant item) →
      blocker (earlier place) (Constant item) ≡ None → is_moot (earlier place) (Constant item) ≡ false →
      IsConstantAnswer schema query (Constant item) (given place (Constant item)) (empty_counter (earlier place)) (numbers place) budget (NotAlways counters) →
      IsShownNotAlways schema query (Constant item) counters
  shown_constant place item [] at free put is = absurd is
  shown_constant place item (counter ∷ []) at free put is = absurd is
  shown_constant place item (counter ∷ second ∷ third ∷ cs) at free put is = absurd is
  shown_constant place item (counter ∷ second ∷ []) at free put is =
      let front : answered 1 (take place (questions schema query)) (take place answers) ≡ earlier place = answered_front place (questions schema query) answers 1 in
      let own = constant_value schema query number budget place item (take place answers) at
      (right_front schema query number budget place (questions schema query) answers 1 [] are)
      (ap (λ xs. blocker xs (Constant item)) front ∙ free)
      (ap (λ xs. is_moot xs (Constant item)) front ∙ put) in
      let same : own.0 ≡ counter = same_Some own.0 counter (sym own.1 ∙ (ap empty_counter front ∙ is.0)) in
      let first : IsRefuted schema query Empty Null counter = subst (IsRefuted schema query Empty Null) same own.2 in
      let at_one : counter.points ≡ One own.3.0 = sym (ap (λ (c : Counter). c.points) same) ∙ own.3.1 in
      two_values item (given place (Constant item)) counter second first own.3.0 at_one
      (ap (λ (o : Option Counter). option_map_or (λ (c : Counter). value_at c.database query item c.points) o Null) is.0) is.1

  not_always : (place : ℕ) (question : Question) (counters : List Counter) → IsAnsweredAt schema query number budget answers place question (NotAlways counters) →
      IsShownNotAlways schema query question counters
  not_always place question counters at = by question at.asked (alone place question (NotAlways counters) refl (next place question (NotAlways counters) at))
    where
      Free : Question → Type 0
      Free q = IsAlone schema query number budget (is_constant q) (earlier place) (one (1 + place) q (NotAlways counters)) × (blocker (earlier place) q ≡ None) × (is_moot (earlier place) q ≡ false)

      by : (q : Question) → slice_get (questions schema query) place ≡ Some q → Free q → IsShownNotAlways schema query q counters
      by (OneRow sub) stands free = shown_other place (OneRow sub) counters refl free.0
      by Empty stands free = shown_other place Empty counters refl free.0
      by NeedlessDistinct stands free = shown_other place NeedlessDistinct counters refl free.0
      by (Constant item) stands free = shown_constant place item counters stands free.1 free.2 free.0
      by (Duplicate item other) stands free = shown_other place (Duplicate item other) counters refl free.0
      by (NeedlessJoin entry) stands free = shown_other place (NeedlessJoin entry) counters refl free.0
      by (Implied predicate) stands free = shown_other place (Implied predicate) counters refl free.0
      by (Impossible predicate) stands free = shown_other place (Impossible predicate) counters refl free.0
      by (SameRow entry other) stands free = shown_other place (SameRow entry other) counters refl free.0
      by (NullInNotIn sub) stands free = shown_other place (NullInNotIn sub) counters refl free.0

  -- an answer of a question that is put, and no verdict, is as if it were asked alone
  pub as_asked : (place : ℕ) (question : Question) (answer : Answer) → IsAnsweredAt schema query number budget answers place question answer → is_put answer ≡ true → is_verdict answer ≡ false →
      IsAskAnswer schema query question (given place question) (numbers place) budget answer
  as_asked place question answer at put none = by answer put none (alone place question answer put (next place question answer at)).0
    where
      by : (a : Answer) → is_put a ≡ true → is_verdict a ≡ false → IsAlone schema query number budget (is_constant question) (earlier place) (one (1 + place) question a) →
          IsAskAnswer schema query question (given place question) (numbers place) budget a
      by (Always cert) put none is = cc
      by (NotAlways counters) put none is = cc
      by Moot put none is = cc
      by (Blocked n) put none is = cc
      by (CyclicKeys cycle counter key) put none is = own_of place question (CyclicKeys cycle counter key) (λ counters same. cc) is
      by (CyclicNesting cycle) put none is = own_of place question (CyclicNesting cycle) (λ counters same. cc) is
      by (Large rows clauses) put none is = own_of place question (Large rows clauses) (λ counters same. cc) is
      by (Spent tried) put none is = own_of place question (Spent tried) (λ counters same. cc) is

  -- ---- one of the two

  decided : (place : ℕ) (question : Question) (answer : Answer) → IsAnsweredAt schema query number budget answers place question answer → is_put answer ≡ true →
      IsDecidable schema query budget question (given place question) → is_verdict answer ≡ true
  decided place question answer at put class = by answer put (alone place question answer put (next place question answer at)).0
    where
      own : (a : Answer) → ((counters : List Counter) → a ≡ NotAlways counters → ⊥) → IsAlone schema query number budget (is_constant question) (earlier place) (one (1 + place) question a) →
          IsOwnAnswer schema query question (given place question) (numbers place) budget a
      own a other is = own_of place question a other is

      same_order : (order : List ℕ) → IsOrder (sentences_for schema query question (given place question)) order → order ≡ class.order
      same_order order is = one_order (sentences_for schema query question (given place question)) order class.order is class.is_order

      by : (a : Answer) → is_put a ≡ true → IsAlone schema query number budget (is_constant question) (earlier place) (one (1 + place) question a) → is_verdict a ≡ true
      by (Always cert) put is = refl
      by (NotAlways counters) put is = refl
      by Moot put is = cc
      by (Blocked n) put is = cc
      by (CyclicKeys cycle counter key) put is = absurd (own (CyclicKeys cycle counter key) (λ counters same. cc) is)
      by (CyclicNesting cycle) put is = absurd (class.acyclic cycle (own (CyclicNesting cycle) (λ counters same. cc) is).closed)
      by (Large rows clauses) put is =
          let large = own (Large rows clauses) (λ counters same. cc) is in
          absurd (never_large (sentences_for schema query question (given place question)) class.order class.few rows clauses
          (subst (λ order. IsTooLarge (sentences_for schema query question (given place question)) order rows clauses) (same_order large.order large.is_order) large.so))
      by (Spent tried) put is =
          let spent = own (Spent tried) (λ counters same. cc) is in
          absurd (class.cases tried
          (subst (λ order. HasSpent (clauses_for (sentences_for schema query question (given place question)) order) (frame_for schema (sentences_for schema query question (given place question)) order) budget tried)
          (same_order spent.order spent.is_order) spent.so.spent))

  pub kept : ((schema : List Table) (query : Query) (question : Question) (value : Value) → is_asked schema query question ≡ true → HoldsAlways schema query question value → AlwaysMeans schema query question value) →
      Headline schema query number budget answers
  kept means = record {
    always = always means;
    not_always = not_always;
    decided = decided;
  }
