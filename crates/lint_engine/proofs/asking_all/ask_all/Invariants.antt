use Rattle.std.proofs.Common.{◌≡◌, [], length, take}
use Rattle.lint_core.specs.Asked.{questions}
use Rattle.lint_engine.specs.AskingAll.{AreRightFrom}
use Rattle.lint_engine.proofs.asking_all.ask_all.Given as goal

abbrev pub invariant-loop-place : goal.invariant-loop-place
invariant-loop-place l = record {
  as_many : length l.answers ≡ l.place;
  right : AreRightFrom l.schema l.query l.number l.budget 1 [] (take l.place (questions l.schema l.query)) l.answers;
}
