use Rattle.witness_db.proofs.Standing.{taken_holds}
use Rattle.witness_db.proofs.laws.taken_clauses_hold.Goals as goal

pub returns : goal.returns
returns c = λ schema problem choices a case db places made clause way formula variables stands chosen.
    taken_holds problem (c.clauses_hang_together.ensures schema problem case.problem_is case.closed) choices case.full a case.assigned case.satisfied db places made clause formula variables stands (way, chosen)
