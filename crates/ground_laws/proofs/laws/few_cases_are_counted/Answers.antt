use Rattle.ground_laws.proofs.Counted.{counted_within, never_spent}
use Rattle.ground_laws.proofs.laws.few_cases_are_counted.Goals as goal

pub returns-clause-at_most : goal.returns-clause-at_most
returns-clause-at_most c = λ clauses frame. counted_within clauses frame

pub returns-clause-enough : goal.returns-clause-enough
returns-clause-enough c = λ clauses frame. never_spent clauses frame
