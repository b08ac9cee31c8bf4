-- The questions that are asked of numbers, each kind a function of the number or of two.
use Rattle.std.specs.Prelude.{ℕ}
use Rattle.lint_core.specs.declared.query.Question.{Question}
use Rattle.lint_core.specs.declared.query.Question.TheVariants as question
use Rattle.error_reductions.specs.declared.listing.Numbered.{Numbered}
use Rattle.error_reductions.specs.declared.listing.Numbered.TheVariants as one
use Rattle.error_reductions.specs.declared.listing.Paired.{Paired}
use Rattle.error_reductions.specs.declared.listing.Paired.TheVariants as two

abbrev pub question_of : Numbered → ℕ → Question
question_of one.OneRow = question.OneRow
question_of one.Constant = question.Constant
question_of one.NeedlessJoin = question.NeedlessJoin
question_of one.Implied = question.Implied
question_of one.Impossible = question.Impossible
question_of one.NullInNotIn = question.NullInNotIn

abbrev pub question_of_two : Paired → ℕ → ℕ → Question
question_of_two two.Duplicate = question.Duplicate
question_of_two two.SameRow = question.SameRow
