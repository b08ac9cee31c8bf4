use Rattle.worked_laws.proofs.UnaskedExample.{earlier_hold, undecided}
use Rattle.worked_laws.proofs.unasked.worked_unasked.Goals as goal

pub returns-clause-earlier_hold : goal.returns-clause-earlier_hold
returns-clause-earlier_hold c = earlier_hold

pub returns-clause-undecided : goal.returns-clause-undecided
returns-clause-undecided c = undecided
