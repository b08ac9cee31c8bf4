use Rattle.ground_laws.proofs.Searched.{frame_is, clauses_fit, ways_few}
use Rattle.ground_laws.proofs.laws.problems_can_be_searched.Goals as goal

pub returns-clause-frame : goal.returns-clause-frame
returns-clause-frame c = λ schema problem is. frame_is schema problem is (c.clauses_hang_together.ensures schema problem is.problem_is is.closed)

pub returns-clause-fitting : goal.returns-clause-fitting
returns-clause-fitting c = λ schema problem is. clauses_fit schema problem is (c.clauses_hang_together.ensures schema problem is.problem_is is.closed)

pub returns-clause-ways : goal.returns-clause-ways
returns-clause-ways c = λ schema problem is. ways_few schema problem is (c.clauses_hang_together.ensures schema problem is.problem_is is.closed)
