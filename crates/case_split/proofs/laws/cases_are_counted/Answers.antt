use Rattle.case_split.proofs.Counting.{counted_here, counted_earlier}
use Rattle.case_split.proofs.laws.cases_are_counted.Goals as goal

pub returns-clause-none_before : goal.returns-clause-none_before
returns-clause-none_before c = λ clauses frame. counted_here clauses frame

pub returns-clause-earlier : goal.returns-clause-earlier
returns-clause-earlier c = λ clauses frame. counted_earlier clauses frame
