use Rattle.instantiate.proofs.Sampled.{clauses_are, terms_are}
use Rattle.instantiate.proofs.worked.worked_ground_list.Goals as goal

pub returns-clause-terms : goal.returns-clause-terms
returns-clause-terms c = terms_are

pub returns-clause-clauses : goal.returns-clause-clauses
returns-clause-clauses c = clauses_are
