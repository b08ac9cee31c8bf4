use Rattle.lint_engine.proofs.Causes.{nesting, large}
use Rattle.lint_engine.proofs.laws.causes_are_exact.Goals as goal

pub returns-clause-nesting : goal.returns-clause-nesting
returns-clause-nesting c = nesting

pub returns-clause-large : goal.returns-clause-large
returns-clause-large c = large
