use Rattle.meaning_laws.proofs.MeaningLawsSubqueries.{exists_never_unknown, exists_some}
use Rattle.meaning_laws.proofs.meaning.exists_is_never_unknown.Goals as goal

pub returns-clause-never_unknown : goal.returns-clause-never_unknown
returns-clause-never_unknown c = λ db subquery place tables binding. exists_never_unknown db tables binding subquery place

pub returns-clause-some_true : goal.returns-clause-some_true
returns-clause-some_true c = λ db subquery place tables binding truths known. exists_some db tables binding subquery place truths known
