use Rattle.meaning_laws.proofs.MeaningLawsSubqueries.{not_in_null, not_in_unknown, not_in_only, not_in_true}
use Rattle.meaning_laws.proofs.meaning.not_in_with_null_is_never_true.Goals as goal

pub returns-clause-not_true : goal.returns-clause-not_true
returns-clause-not_true c = λ db left item subquery place tables binding. not_in_null db tables binding left item subquery place

pub returns-clause-unknown : goal.returns-clause-unknown
returns-clause-unknown c = λ db left item subquery place tables binding. not_in_unknown db tables binding left item subquery place

pub returns-clause-only_distinct : goal.returns-clause-only_distinct
returns-clause-only_distinct c = λ db left item subquery place tables binding. not_in_only db tables binding left item subquery place

pub returns-clause-if_distinct : goal.returns-clause-if_distinct
returns-clause-if_distinct c = λ db left item subquery place tables binding. not_in_true db tables binding left item subquery place
