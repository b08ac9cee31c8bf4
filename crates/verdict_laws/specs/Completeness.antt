-- When a question is decided, said without the search: it is of the class, no limit is passed, and whatever cases are listed that count,
-- none twice, they are at most as many as the budget.
use Rattle.std.specs.Prelude.{◌≡◌, ℕ, ◌*◌, ◌≤◌, max, Bool, true, List, [], ◌∷◌, length, Some, slice_get}
use Rattle.std.specs.List.{AllByRecursion}
use Rattle.lint_core.specs.declared.database.Value.{Value}
use Rattle.lint_core.specs.declared.query.Query.{Query}
use Rattle.lint_core.specs.declared.query.Question.{Question}
use Rattle.lint_core.specs.declared.run.Answer.{Answer}
use Rattle.lint_core.specs.declared.run.Answer.TheVariants.{Spent}
use Rattle.lint_core.specs.declared.schema.Table.{Table}
use Rattle.sorted_skolem.specs.Graph.{IsAcyclic, IsOrder}
use Rattle.ground_theory.specs.declared.literal.Clause.{Clause}
use Rattle.ground_theory.specs.declared.literal.Frame.{Frame}
use Rattle.case_split.specs.Cases.{IsCounted}
use Rattle.case_split.specs.Choices.{Choices}
use Rattle.lint_engine.specs.JudgedBy.{sentences_for, clauses_for, frame_for}
use Rattle.lint_engine.specs.Limits.{AreFew}
use Rattle.verdict_laws.specs.Headline.{is_verdict}

-- no case is listed twice
abbrev pub AreDifferent : List Choices → Type 0
AreDifferent [] = Unit {0}
AreDifferent (case ∷ cases) = ((place : ℕ) → ¬ (slice_get cases place ≡ Some case)) × AreDifferent cases

-- so many different counted cases can be listed at most
abbrev pub HasAtMost : List Clause → Frame → ℕ → Type 0
HasAtMost clauses frame most = (cases : List Choices) → AreDifferent cases → AllByRecursion (IsCounted clauses frame) cases → length cases ≤ most

-- the product of the numbers of ways, where a clause without ways counts as one
abbrev pub product_of_ways : List Clause → ℕ
product_of_ways [] = 1
product_of_ways (clause ∷ clauses) = max 1 (length clause.ways) * product_of_ways clauses

module _ (schema : List Table) (query : Query) (question : Question) (given : Value) where
  -- The sentences of the question, for a constant column with this value, ask of the rows of tables that do not go round, and no limit
  -- is passed, by the order of these tables (they have one).
  pub record IsInClass : Type 0 where
    pub acyclic : IsAcyclic (sentences_for schema query question given)
    pub few : (order : List ℕ) → IsOrder (sentences_for schema query question given) order → AreFew (sentences_for schema query question given) order

  -- there are at most so many counted cases
  abbrev pub HasFewCases : ℕ → Type 0
  HasFewCases most =
      (order : List ℕ) → IsOrder (sentences_for schema query question given) order →
      HasAtMost (clauses_for (sentences_for schema query question given) order) (frame_for schema (sentences_for schema query question given) order) most

-- a verdict, or there are more cases than the budget
abbrev pub is_verdict_or_spent : Answer → Bool
is_verdict_or_spent (Spent tried) = true
is_verdict_or_spent answer = is_verdict answer
