-- What is known of the problem that a question is judged by, and of why none is made.
use Rattle.std.specs.Prelude.{◌≡◌, ◌<◌, ◌≤◌, ◌^◌, ℕ, suc, List, length}
use Rattle.lint_core.specs.declared.schema.Table.{Table}
use Rattle.lint_core.specs.Database.{below}
use Rattle.sort_formula.specs.declared.formula.Formula.{Formula}
use Rattle.sorted_skolem.specs.Graph.{IsCycle, IsAcyclic, IsOrder}
use Rattle.instantiate.specs.declared.problem.Problem.{Problem}
use Rattle.ground_laws.specs.Grounded.{IsGrounded}
use Rattle.lint_engine.specs.declared.problem.Stop.{Stop}
use Rattle.lint_engine.specs.declared.problem.Stop.TheVariants as stop
use Rattle.lint_engine.specs.Limits.{IsTooLarge}

-- made of these sentences, within the limits; the number of each is its place
pub record IsReady (schema : List Table) (sentences : List Formula) (problem : Problem) : Type 0 where
  pub grounded : IsGrounded schema problem
  pub sentences_are : problem.sentences ≡ sentences
  pub numbers_are : problem.numbers ≡ below (suc (length sentences))
  pub few_clauses : length problem.clauses ≤ 400000
  pub few_sentences : length sentences < 2 ^ 31
  pub acyclic : IsAcyclic sentences

-- the tables have an order, and a limit is passed
pub record IsPassed (sentences : List Formula) (rows clauses : ℕ) : Type 0 where
  pub acyclic : IsAcyclic sentences
  pub order : List ℕ
  pub is_order : IsOrder sentences order
  pub too_large : IsTooLarge sentences order rows clauses

abbrev pub IsStop : List Formula → Stop → Type 0
IsStop sentences (stop.Cycle tables) = IsCycle sentences tables
IsStop sentences (stop.Large rows nodes) = IsPassed sentences rows nodes
IsStop sentences stop.NoMemory = Unit {0}
