use Rattle.lint_engine.proofs.EarlierHold.{earlier_hold, own}
use Rattle.lint_engine.proofs.laws.earlier_questions_hold.Goals as goal

pub returns-clause-hold : goal.returns-clause-hold
returns-clause-hold c = earlier_hold

pub returns-clause-own : goal.returns-clause-own
returns-clause-own c = λ schema query question given numbers budget answer hold is. own schema query question given numbers budget hold answer is
