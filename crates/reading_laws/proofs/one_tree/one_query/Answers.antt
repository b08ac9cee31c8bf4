use Rattle.reading_laws.proofs.OneTree.{one_query, one_select}
use Rattle.reading_laws.proofs.one_tree.one_query.Goals as goal

pub returns : goal.returns
returns c = record { select = one_select; query = one_query }
