use Rattle.std.proofs.Common.{◌≡◌, ◌+◌, ◌++◌, length, map, All}
use Rattle.command_words.specs.Said.{asked_by}
use Rattle.lint_core.specs.declared.run.QueryRun.{QueryRun}
use Rattle.sql_lex.specs.Pieces.{pieces}
use Rattle.sql_lex.specs.Rest.{rest}
use Rattle.sql_lex.specs.Within.{IsWithin}
use Rattle.lint_run.specs.RightRun.{AreRightFrom}
use Rattle.lint_run.proofs.judging.runs_of.Given as goal

abbrev pub invariant-loop-piece : goal.invariant-loop-piece
invariant-loop-piece l = record {
  spans : map (λ (q : QueryRun). q.span) l.runs ++ rest l.piece-iterator ≡ pieces l.text;
  within : All (IsWithin (length l.text)) (rest l.piece-iterator);
  right : AreRightFrom (asked_by l.task) l.schema 1 l.text l.runs;
  count : l.number ≡ 1 + length l.runs;
}
