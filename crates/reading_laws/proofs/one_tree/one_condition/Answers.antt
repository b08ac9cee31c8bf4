use Rattle.reading_laws.proofs.OneTree.{one_condition}
use Rattle.reading_laws.proofs.one_tree.one_condition.Goals as goal

pub returns : goal.returns
returns c = one_condition
