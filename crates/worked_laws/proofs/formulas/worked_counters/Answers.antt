use Rattle.worked_laws.proofs.CounterExamples.{two_rows_inside, two_inside, two_of_the_entry, two_apart, none_or_two, none_fits, two_fit}
use Rattle.worked_laws.proofs.formulas.worked_counters.Goals as goal

pub returns-clause-two_rows_inside : goal.returns-clause-two_rows_inside
returns-clause-two_rows_inside c = two_rows_inside

pub returns-clause-two_inside : goal.returns-clause-two_inside
returns-clause-two_inside c = two_inside

pub returns-clause-two_of_the_entry : goal.returns-clause-two_of_the_entry
returns-clause-two_of_the_entry c = two_of_the_entry

pub returns-clause-two_apart : goal.returns-clause-two_apart
returns-clause-two_apart c = two_apart

pub returns-clause-none_or_two : goal.returns-clause-none_or_two
returns-clause-none_or_two c = none_or_two

pub returns-clause-none_fits : goal.returns-clause-none_fits
returns-clause-none_fits c = none_fits

pub returns-clause-two_fit : goal.returns-clause-two_fit
returns-clause-two_fit c = two_fit
