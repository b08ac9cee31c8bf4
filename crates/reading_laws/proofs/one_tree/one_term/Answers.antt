use Rattle.reading_laws.proofs.OneTree.{one_term}
use Rattle.reading_laws.proofs.one_tree.one_term.Goals as goal

pub returns : goal.returns
returns c = one_term
