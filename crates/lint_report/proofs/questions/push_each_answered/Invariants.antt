use Rattle.std.proofs.Common.{◌≡◌, ◌++◌, ◌+◌, length, string_bytes}
use Rattle.lint_report.specs.Text.{answers_text}
use Rattle.lint_report.proofs.questions.push_each_answered.Given as goal

abbrev pub invariant-loop-question : goal.invariant-loop-question
invariant-loop-question l = record {
  told : string_bytes l.out ++ answers_text l.schema l.query l.number l.questions l.answers ≡ string_bytes l.fn.out ++ answers_text l.fn.schema l.fn.query 1 l.fn.questions l.fn.answers;
  count : l.number + length l.questions ≡ 1 + length l.fn.questions;
}

abbrev pub decreases-loop-question : goal.decreases-loop-question
decreases-loop-question l = length l.questions
