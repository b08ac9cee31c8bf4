use Rattle.lint_engine.proofs.Going.{right_next}
use Rattle.lint_engine.proofs.laws.right_answers_go_on.Goals as goal

pub returns : goal.returns
returns c = right_next
