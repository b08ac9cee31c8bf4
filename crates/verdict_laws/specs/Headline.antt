-- What the answers to the questions of a query promise, one question at a time.
use Rattle.std.specs.Prelude.{◌≡◌, ℕ, ◌+◌, Bool, true, false, List, Some, take, slice_get, All}
use Rattle.lint_core.specs.declared.certificate.Cert.{Cert}
use Rattle.lint_core.specs.declared.database.Counter.{Counter}
use Rattle.lint_core.specs.declared.database.Value.{Value}
use Rattle.lint_core.specs.declared.query.Query.{Query}
use Rattle.lint_core.specs.declared.query.Question.{Question}
use Rattle.lint_core.specs.declared.run.Answer.{Answer}
use Rattle.lint_core.specs.declared.run.Answer.TheVariants.{Always, NotAlways, Moot, Blocked}
use Rattle.lint_core.specs.declared.schema.Table.{Table}
use Rattle.lint_core.specs.Asked.{questions}
use Rattle.lint_core.specs.Meets.{meets}
use Rattle.lint_core.specs.Question.{HoldsIn}
use Rattle.sort_formula.specs.Certificate.{accepts}
use Rattle.sort_formula.specs.Counters.{counter_sentence}
use Rattle.sorted_skolem.specs.Graph.{IsAcyclic, IsOrder}
use Rattle.case_split.specs.Answers.{HasSpent}
use Rattle.answer_laws.specs.AlwaysMeans.{AlwaysMeans}
use Rattle.lint_engine.specs.Earlier.{answered, given_for}
use Rattle.lint_engine.specs.JudgedBy.{sentences_for, clauses_for, frame_for}
use Rattle.lint_engine.specs.Limits.{AreFew}

-- the question is put: nothing earlier decides that it isn't
abbrev pub is_put : Answer → Bool
is_put Moot = false
is_put (Blocked by) = false
is_put answer = true

abbrev pub is_verdict : Answer → Bool
is_verdict (Always cert) = true
is_verdict (NotAlways counters) = true
is_verdict answer = false

module _ (schema : List Table) (query : Query) where
  -- What the question means holds in every database that meets the schema, for a constant column with the value that the
  -- certificate names; and the steps of the certificate refute the counter sentence, as the checker decides.
  pub record IsProvedAlways (question : Question) (cert : Cert) : Type 0 where
    pub means : AlwaysMeans schema query question cert.value
    pub accepted : accepts schema (counter_sentence schema query question cert.value) cert.steps ≡ true

  -- The databases meet the schema, and the question fails in one of them, whatever value a constant column is said to have.
  pub record IsShownNotAlways (question : Question) (counters : List Counter) : Type 0 where
    pub meet : All (λ (c : Counter). meets schema c.database ≡ true) counters
    pub fails : (given : Value) → All (λ (c : Counter). HoldsIn c.database query question given) counters → ⊥

-- The question is of the class that is decided, within the limits: its sentences, for a constant column with this value, ask of
-- the rows of tables that have an order, no limit is passed, and there are not more counted cases than the budget.
pub record IsDecidable (schema : List Table) (query : Query) (budget : ℕ) (question : Question) (given : Value) : Type 0 where
  pub acyclic : IsAcyclic (sentences_for schema query question given)
  pub order : List ℕ
  pub is_order : IsOrder (sentences_for schema query question given) order
  pub few : AreFew (sentences_for schema query question given) order
  pub cases : (tried : ℕ) →
      HasSpent (clauses_for (sentences_for schema query question given) order) (frame_for schema (sentences_for schema query question given) order) budget tried → ⊥

module _ (schema : List Table) (query : Query) (number budget : ℕ) (answers : List Answer) where
  -- the question at this place has this answer
  pub record IsAnsweredAt (place : ℕ) (question : Question) (answer : Answer) : Type 0 where
    pub asked : slice_get (questions schema query) place ≡ Some question
    pub told : slice_get answers place ≡ Some answer

  -- the value with which the question at a place is put, by the answers before it; it is read of a constant column alone
  abbrev pub given_at : ℕ → Question → Value
  given_at place question = given_for query (take place (answered 1 (questions schema query) answers)) question

  pub record Headline : Type 0 where
    -- each `always` holds in every database that meets the schema, and the checker accepts its certificate, which names its query and
    -- its question
    pub always : (place : ℕ) (question : Question) (cert : Cert) → IsAnsweredAt place question (Always cert) →
        IsProvedAlways schema query question cert × (cert.query ≡ number) × (cert.question ≡ place + 1)
    -- each `not always` has databases that meet the schema and in which the question fails
    pub not_always : (place : ℕ) (question : Question) (counters : List Counter) → IsAnsweredAt place question (NotAlways counters) →
        IsShownNotAlways schema query question counters
    -- each question that is put, and is of the class, gets one of the two
    pub decided : (place : ℕ) (question : Question) (answer : Answer) → IsAnsweredAt place question answer → is_put answer ≡ true →
        IsDecidable schema query budget question (given_at place question) → is_verdict answer ≡ true
