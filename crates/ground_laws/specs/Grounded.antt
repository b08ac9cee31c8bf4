-- Problems as `ground` makes them over a schema: all that it asks of sentences, and what it answers.
use Rattle.std.specs.Prelude.{◌≡◌, ◌<◌, ◌≤◌, ◌^◌, ℕ, true, List, [], length, All, Some, slice_get}
use Rattle.std.specs.List.{list_all}
use Rattle.lint_core.specs.declared.schema.Table.{Table}
use Rattle.lint_core.specs.Schema.{is_schema}
use Rattle.sort_formula.specs.declared.formula.Formula.{Formula}
use Rattle.sort_formula.specs.Nodes.{nodes}
use Rattle.sort_formula.specs.Sentences.{formula_fits, is_sentence}
use Rattle.instantiate.specs.declared.problem.Problem.{Problem}
use Rattle.instantiate.specs.Cases.{IsProblem}

-- made of sentences that fit the schema, none of 2^32 nodes, with at most 512 row terms
pub record IsGrounded (schema : List Table) (problem : Problem) : Type 0 where
  pub right : is_schema schema ≡ true
  pub problem_is : IsProblem schema problem
  pub closed : (sentence : ℕ) (formula : Formula) → slice_get problem.sentences sentence ≡ Some formula → is_sentence formula ≡ true
  pub fits : list_all (λ s. formula_fits schema s []) problem.sentences ≡ true
  pub few_nodes : All (λ s. nodes s < 2 ^ 32) problem.sentences
  pub few_rows : length problem.rows.terms ≤ 512
