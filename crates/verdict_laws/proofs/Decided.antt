-- Questions of the class are decided, or have more cases than the budget.
use Rattle.std.proofs.Common.{◌≡◌, refl, ℕ, ◌+◌, Bool, true, false, List}
use Rattle.lint_core.specs.declared.database.Value.{Value}
use Rattle.lint_core.specs.declared.query.Query.{Query}
use Rattle.lint_core.specs.declared.query.Question.{Question}
use Rattle.lint_core.specs.declared.run.Answer.{Answer}
use Rattle.lint_core.specs.declared.run.Answer.TheVariants.{Always, NotAlways, Moot, Blocked, CyclicKeys, CyclicNesting, Large, Spent}
use Rattle.lint_core.specs.declared.schema.Table.{Table}
use Rattle.ground_theory.specs.declared.literal.Clause.{Clause}
use Rattle.ground_theory.specs.declared.literal.Frame.{Frame}
use Rattle.case_split.specs.Answers.{HasSpent}
use Rattle.lint_engine.specs.Asking.{Numbers, IsAskAnswer}
use Rattle.lint_engine.specs.AskingAll.{AreRightAnswers}
use Rattle.lint_engine.specs.JudgedBy.{sentences_for, clauses_for, frame_for}
use Rattle.lint_engine.proofs.Causes.{never_large}
use Rattle.verdict_laws.specs.Completeness.{HasAtMost, HasFewCases, IsInClass, is_verdict_or_spent}
use Rattle.verdict_laws.specs.Headline.{IsAnsweredAt, given_at, is_put, is_verdict}
use Rattle.verdict_laws.proofs.Kept.{as_asked}

abbrev pub Suffices : Type 0
Suffices = (clauses : List Clause) (frame : Frame) (budget tried : ℕ) → HasAtMost clauses frame budget → HasSpent clauses frame budget tried → ⊥

module _ (schema : List Table) (query : Query) (question : Question) (given : Value) (numbers : Numbers) (budget : ℕ) where
  pub alone_decided : (answer : Answer) → IsAskAnswer schema query question given numbers budget answer → IsInClass schema query question given → is_verdict_or_spent answer ≡ true
  alone_decided (Always cert) is class = refl
  alone_decided (NotAlways counters) is class = refl
  alone_decided Moot is class = absurd is
  alone_decided (Blocked by) is class = absurd is
  alone_decided (CyclicKeys cycle counter key) is class = absurd is
  alone_decided (CyclicNesting cycle) is class = absurd (class.acyclic cycle is.closed)
  alone_decided (Large rows clauses) is class =
      absurd (never_large (sentences_for schema query question given) is.order (class.few is.order is.is_order) rows clauses is.so)
  alone_decided (Spent tried) is class = refl

  never_spent : Suffices → (tried : ℕ) → IsAskAnswer schema query question given numbers budget (Spent tried) → HasFewCases schema query question given budget → ⊥
  never_spent suffices tried is few =
      suffices (clauses_for (sentences_for schema query question given) is.order) (frame_for schema (sentences_for schema query question given) is.order) budget tried
      (few is.order is.is_order) is.so.spent

  pub none_left : Suffices → (answer : Answer) → IsAskAnswer schema query question given numbers budget answer → IsInClass schema query question given →
      HasFewCases schema query question given budget → is_verdict answer ≡ true
  none_left suffices (Always cert) is class few = refl
  none_left suffices (NotAlways counters) is class few = refl
  none_left suffices Moot is class few = absurd is
  none_left suffices (Blocked by) is class few = absurd is
  none_left suffices (CyclicKeys cycle counter key) is class few = absurd is
  none_left suffices (CyclicNesting cycle) is class few = alone_decided (CyclicNesting cycle) is class
  none_left suffices (Large rows clauses) is class few = alone_decided (Large rows clauses) is class
  none_left suffices (Spent tried) is class few = absurd (never_spent suffices tried is few)

pub alone_within : Suffices → (schema : List Table) (query : Query) (question : Question) (given : Value) (numbers : Numbers) (budget : ℕ) (answer : Answer) →
    IsAskAnswer schema query question given numbers budget answer → IsInClass schema query question given → HasFewCases schema query question given budget → is_verdict answer ≡ true
alone_within suffices schema query question given numbers budget answer is class few = none_left schema query question given numbers budget suffices answer is class few

-- ---- of all questions of a query

module _ (schema : List Table) (query : Query) (number budget : ℕ) (answers : List Answer) (are : AreRightAnswers schema query number budget answers) (place : ℕ) (question : Question) where
  abbrev given : Value
  given = given_at schema query number budget answers place question

  abbrev numbers : Numbers
  numbers = record { query = number; question = 1 + place }

  pub all_decided : (answer : Answer) → IsAnsweredAt schema query number budget answers place question answer → is_put answer ≡ true →
      IsInClass schema query question given → is_verdict_or_spent answer ≡ true
  all_decided answer at put class = by (is_verdict answer) refl
    where
      said : (a : Answer) → is_verdict a ≡ true → is_verdict_or_spent a ≡ true
      said (Always cert) is = refl
      said (NotAlways counters) is = refl
      said Moot is = cc
      said (Blocked by) is = cc
      said (CyclicKeys cycle counter key) is = cc
      said (CyclicNesting cycle) is = cc
      said (Large rows clauses) is = cc
      said (Spent tried) is = refl

      by : (b : Bool) → is_verdict answer ≡ b → is_verdict_or_spent answer ≡ true
      by true is = said answer is
      by false is = alone_decided schema query question given numbers budget answer (as_asked schema query number budget answers are place question answer at put is) class

  pub left_by : Suffices → (answer : Answer) → IsAnsweredAt schema query number budget answers place question answer → is_put answer ≡ true →
      IsInClass schema query question given → HasFewCases schema query question given budget → is_verdict answer ≡ true
  left_by suffices answer at put class few = by (is_verdict answer) refl
    where
      by : (b : Bool) → is_verdict answer ≡ b → is_verdict answer ≡ true
      by true is = is
      by false is = none_left schema query question given numbers budget suffices answer (as_asked schema query number budget answers are place question answer at put is) class few

pub all_within : Suffices → (schema : List Table) (query : Query) (number budget : ℕ) (answers : List Answer) → AreRightAnswers schema query number budget answers →
    (place : ℕ) (question : Question) (answer : Answer) → IsAnsweredAt schema query number budget answers place question answer → is_put answer ≡ true →
    IsInClass schema query question (given_at schema query number budget answers place question) →
    HasFewCases schema query question (given_at schema query number budget answers place question) budget → is_verdict answer ≡ true
all_within suffices schema query number budget answers are place question answer at put class few = left_by schema query number budget answers are place question suffices answer at put class few
