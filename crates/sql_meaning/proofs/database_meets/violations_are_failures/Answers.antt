use Rattle.sql_meaning.proofs.ViolationsMet.{none_violated}
use Rattle.sql_meaning.proofs.database_meets.violations_are_failures.Goals as goal

pub returns : goal.returns
returns c = λ schema database fit. none_violated schema database fit
