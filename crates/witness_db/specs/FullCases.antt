-- Of which full cases a database is made.
use Rattle.std.specs.Prelude.{◌≡◌, ◌≤◌, ◌<◌, ◌^◌, ℕ, true, List, All, Some, length, slice_get}
use Rattle.lint_core.specs.declared.schema.Table.{Table}
use Rattle.sort_formula.specs.declared.formula.Formula.{Formula}
use Rattle.sort_formula.specs.Nodes.{nodes}
use Rattle.sort_formula.specs.Sentences.{is_sentence}
use Rattle.ground_theory.specs.declared.literal.Assignment.{Assignment}
use Rattle.ground_theory.specs.Assignments.{IsAssignment, satisfies_all}
use Rattle.ground_theory.specs.Judgeable.{is_frame}
use Rattle.case_split.specs.Cases.{IsFullCase}
use Rattle.case_split.specs.Choices.{Choices, literals_of}
use Rattle.instantiate.specs.declared.problem.Problem.{Problem}
use Rattle.instantiate.specs.Cases.{IsProblem}

-- a full case of a problem over the schema, with an assignment that satisfies the case's literals
pub record IsFullCaseOf (schema : List Table) (problem : Problem) (choices : Choices) (a : Assignment) : Type 0 where
  pub problem_is : IsProblem schema problem
  pub closed : (sentence : ℕ) (formula : Formula) → slice_get problem.sentences sentence ≡ Some formula → is_sentence formula ≡ true
  pub full : IsFullCase problem.clauses problem.frame choices
  pub assigned : IsAssignment problem.frame a
  pub satisfied : satisfies_all a (literals_of problem.clauses choices) ≡ true

-- few row terms, of tables that are there, few clauses and few nodes
pub record CanBePlaced (problem : Problem) : Type 0 where
  pub few_rows : length problem.rows.terms ≤ 512
  pub few_clauses : length problem.clauses ≤ 400000
  pub few_nodes : All (λ s. nodes s < 2 ^ 32) problem.sentences
  pub frame_is : is_frame problem.frame ≡ true
