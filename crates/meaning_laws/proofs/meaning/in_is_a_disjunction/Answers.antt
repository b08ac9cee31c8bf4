use Rattle.std.proofs.Common.{false, map}
use Rattle.lint_tables.specs.declared.op.Op.TheVariants.{Eq}
use Rattle.lint_core.specs.Comparison.{compare}
use Rattle.meaning_laws.proofs.MeaningLawsSubqueries.{in_decided, in_known, in_list, not_in_list, or_decided}
use Rattle.meaning_laws.proofs.meaning.in_is_a_disjunction.Goals as goal

pub returns-clause-of_a_subquery : goal.returns-clause-of_a_subquery
returns-clause-of_a_subquery c = λ db left item subquery place tables binding. in_decided db tables binding left item subquery place

pub returns-clause-only_selected : goal.returns-clause-only_selected
returns-clause-only_selected c = λ db left item subquery place tables binding t known.
    let found = in_known db tables binding left item subquery place false t known in
    (found.0, found.1)

pub returns-clause-of_a_list : goal.returns-clause-of_a_list
returns-clause-of_a_list c = λ db left items tables binding. in_list db tables binding left items

pub returns-clause-not_of_a_list : goal.returns-clause-not_of_a_list
returns-clause-not_of_a_list c = λ db left items tables binding. not_in_list db tables binding left items

pub returns-clause-decided : goal.returns-clause-decided
returns-clause-decided c = λ left values. or_decided (map (compare Eq left) values)
