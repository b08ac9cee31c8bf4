use Rattle.meaning_laws.proofs.MeaningLawsDistinct.{value_decides, row_decides, values_equivalence, distinct_of, distinct_only, answer_without}
use Rattle.meaning_laws.proofs.meaning.distinct_keeps_one_of_each.Goals as goal

pub returns-clause-values : goal.returns-clause-values
returns-clause-values c = value_decides

pub returns-clause-values_equivalence : goal.returns-clause-values_equivalence
returns-clause-values_equivalence c = values_equivalence

pub returns-clause-rows : goal.returns-clause-rows
returns-clause-rows c = row_decides

pub returns-clause-with_distinct : goal.returns-clause-with_distinct
returns-clause-with_distinct c = λ db query distinct is all known. distinct_of db query distinct is all known

pub returns-clause-only_with_distinct : goal.returns-clause-only_with_distinct
returns-clause-only_with_distinct c = λ db query distinct is rows known. distinct_only db query distinct is rows known

pub returns-clause-without : goal.returns-clause-without
returns-clause-without c = λ db query is. answer_without db query is
