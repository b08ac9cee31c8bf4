-- What is answered of one question, in the databases in which the scalar subqueries asked of before it give at most one row.
-- The causes stand in this order: the tables of whose rows the sentences ask have no order; a limit is passed; the cases are
-- more than the budget; and else there is a certificate, or a database in which the question fails.
use Rattle.std.specs.Prelude.{◌≡◌, ℕ, true, List, [], ◌∷◌}
use Rattle.lint_core.specs.declared.certificate.Cert.{Cert}
use Rattle.lint_core.specs.declared.database.Counter.{Counter}
use Rattle.lint_core.specs.declared.database.Database.{Database}
use Rattle.lint_core.specs.declared.database.Value.{Value}
use Rattle.lint_core.specs.declared.query.Query.{Query}
use Rattle.lint_core.specs.declared.query.Question.{Question}
use Rattle.lint_core.specs.declared.run.Answer.{Answer}
use Rattle.lint_core.specs.declared.run.Answer.TheVariants.{Always, NotAlways, Moot, Blocked, CyclicKeys, CyclicNesting, Large, Spent}
use Rattle.lint_core.specs.declared.schema.Table.{Table}
use Rattle.lint_core.specs.DatabaseFits.{database_fits}
use Rattle.lint_core.specs.Meets.{meets}
use Rattle.lint_core.specs.Question.{refutes, HoldsIn, EarlierHold}
use Rattle.sort_formula.specs.declared.formula.Formula.{Formula}
use Rattle.sort_formula.specs.Certificate.{accepts}
use Rattle.sort_formula.specs.Counters.{counter_sentence}
use Rattle.sort_formula.specs.Loose.{refutes_loosely}
use Rattle.sorted_skolem.specs.Graph.{IsCycle, IsAcyclic, IsOrder}
use Rattle.case_split.specs.Answers.{HasSpent}
use Rattle.lint_engine.specs.JudgedBy.{sentences_for, clauses_for, frame_for}
use Rattle.lint_engine.specs.Limits.{AreFew, IsTooLarge}

-- the two numbers that a certificate names: those of its query and its question, from 1
pub record Numbers : Type 0 where
  pub query : ℕ
  pub question : ℕ

module _ (schema : List Table) (query : Query) (question : Question) (given : Value) where
  -- where the scalar subqueries asked of before give at most one row, the question holds
  abbrev pub HoldsWhereEarlierHold : Type 0
  HoldsWhereEarlierHold = (db : Database) → meets schema db ≡ true → EarlierHold db query question → HoldsIn db query question given

  -- the certificate names its query, its question and the value, and its steps are accepted
  pub record IsCertificate (numbers : Numbers) (cert : Cert) : Type 0 where
    pub names_query : cert.query ≡ numbers.query
    pub names_question : cert.question ≡ numbers.question
    pub names_value : cert.value ≡ given
    pub accepted : accepts schema (counter_sentence schema query question given) cert.steps ≡ true

  -- the database meets the schema, and the points refute the question by the formulas of its conditions
  pub record IsCounter (counter : Counter) : Type 0 where
    pub fits : database_fits schema counter.database ≡ true
    pub meets_schema : meets schema counter.database ≡ true
    pub refuted : refutes_loosely schema counter.database query question given counter.points ≡ true

  abbrev pub sentences : List Formula
  sentences = sentences_for schema query question given

  -- the tables have an order, so that there is no cycle, and this follows from it
  pub record InOrder (So : List ℕ → Type 0) : Type 0 where
    pub acyclic : IsAcyclic sentences
    pub order : List ℕ
    pub is_order : IsOrder sentences order
    pub so : So order

  -- no limit is passed
  abbrev pub IsWithinLimits : List ℕ → Type 0
  IsWithinLimits order = AreFew sentences order

  -- and there are more counted cases than the budget
  pub record IsSpent (budget tried : ℕ) (order : List ℕ) : Type 0 where
    pub within : IsWithinLimits order
    pub spent : HasSpent (clauses_for sentences order) (frame_for schema sentences order) budget tried

  -- and a certificate shows that the question holds where those subqueries give at most one row
  pub record IsAlways (numbers : Numbers) (cert : Cert) : Type 0 where
    pub limits : InOrder IsWithinLimits
    pub certificate : IsCertificate numbers cert
    pub holds : HoldsWhereEarlierHold

  -- and it fails in a database, if they give at most one row there
  pub record IsNotAlways (counter : Counter) : Type 0 where
    pub limits : InOrder IsWithinLimits
    pub counter_is : IsCounter counter
    pub fails : EarlierHold counter.database query question → refutes counter.database query question given counter.points ≡ true

  abbrev pub IsAskAnswer : Numbers → ℕ → Answer → Type 0
  IsAskAnswer numbers budget (CyclicNesting cycle) = IsCycle sentences cycle
  IsAskAnswer numbers budget (Large rows clauses) = InOrder (λ order. IsTooLarge sentences order rows clauses)
  IsAskAnswer numbers budget (Spent tried) = InOrder (IsSpent budget tried)
  IsAskAnswer numbers budget (Always cert) = IsAlways numbers cert
  IsAskAnswer numbers budget (NotAlways []) = ⊥
  IsAskAnswer numbers budget (NotAlways (counter ∷ [])) = IsNotAlways counter
  IsAskAnswer numbers budget (NotAlways (counter ∷ other ∷ counters)) = ⊥
  -- no foreign key is left out yet
  IsAskAnswer numbers budget (CyclicKeys cycle counter key) = ⊥
  -- these stand on the answers to other questions
  IsAskAnswer numbers budget Moot = ⊥
  IsAskAnswer numbers budget (Blocked by) = ⊥
