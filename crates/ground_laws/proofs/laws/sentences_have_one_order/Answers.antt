use Rattle.ground_laws.proofs.Orders.{one_order}
use Rattle.ground_laws.proofs.laws.sentences_have_one_order.Goals as goal

pub returns : goal.returns
returns c = one_order
