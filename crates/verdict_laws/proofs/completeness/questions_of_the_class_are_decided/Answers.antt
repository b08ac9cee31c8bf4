use Rattle.verdict_laws.proofs.Decided.{alone_decided, alone_within, all_decided, all_within}
use Rattle.verdict_laws.proofs.completeness.questions_of_the_class_are_decided.Goals as goal

pub returns-clause-alone : goal.returns-clause-alone
returns-clause-alone c = alone_decided

pub returns-clause-alone_within : goal.returns-clause-alone_within
returns-clause-alone_within c = alone_within c.budgets_suffice.ensures.at_most

pub returns-clause-all : goal.returns-clause-all
returns-clause-all c = all_decided

pub returns-clause-all_within : goal.returns-clause-all_within
returns-clause-all_within c = all_within c.budgets_suffice.ensures.at_most
