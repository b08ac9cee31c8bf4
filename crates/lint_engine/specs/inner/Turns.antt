-- What is known where the next question is judged.
use Rattle.std.specs.Prelude.{◌≡◌, ◌<◌, ◌-◌, ◌^◌, ℕ, List, [], length, take, Some, slice_get}
use Rattle.lint_core.specs.declared.query.Query.{Query}
use Rattle.lint_core.specs.declared.query.Question.{Question}
use Rattle.lint_core.specs.declared.run.Answer.{Answer}
use Rattle.lint_core.specs.declared.schema.Table.{Table}
use Rattle.lint_core.specs.Asked.{questions}
use Rattle.lint_engine.specs.AskingAll.{AreRightFrom}

-- the next question of the query behind these, whose answers are right
pub record IsTurn (schema : List Table) (query : Query) (number budget : ℕ) (asked : List Question) (answers : List Answer) (question : Question) : Type 0 where
  pub as_many : length asked ≡ length answers
  pub few : length answers < 2 ^ 32 - 1
  pub before : take (length asked) (questions schema query) ≡ asked
  pub stands : slice_get (questions schema query) (length asked) ≡ Some question
  pub right : AreRightFrom schema query number budget 1 [] asked answers
