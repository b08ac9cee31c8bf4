use Rattle.reading_laws.proofs.OneTree.{one_predicate}
use Rattle.reading_laws.proofs.one_tree.one_predicate.Goals as goal

pub returns : goal.returns
returns c = one_predicate
