use Rattle.witness_db.proofs.Standing.{every_sentence_holds}
use Rattle.witness_db.proofs.laws.full_case_satisfies_sentences.Goals as goal

pub returns : goal.returns
returns c = λ schema problem choices a case db places made.
    every_sentence_holds problem (c.clauses_hang_together.ensures schema problem case.problem_is case.closed) choices case.full a case.assigned case.satisfied db places made
