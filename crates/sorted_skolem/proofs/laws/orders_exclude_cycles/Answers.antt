use Rattle.sorted_skolem.proofs.Ordered.{order_excludes_cycles}
use Rattle.sorted_skolem.proofs.laws.orders_exclude_cycles.Goals as goal

pub returns : goal.returns
returns c = λ sentences tables is_order. order_excludes_cycles sentences tables is_order
