use Rattle.instantiate.proofs.Plain.{plain_nodes}
use Rattle.instantiate.proofs.laws.plain_nodes_are_numbered.Goals as goal

pub returns : goal.returns
returns c = λ schema problem is. plain_nodes schema problem is
