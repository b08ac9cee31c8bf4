use Rattle.std.proofs.Common.{arith}
use Rattle.sql_meaning.proofs.Places.{not_same}
use Rattle.sql_meaning.proofs.points.is_same_binding.Goals as goal

pub returns-then-binding-other : goal.returns-then-binding-other
returns-then-binding-other c = not_same c.args.binding.now c.args.other.now (λ same. omega (arith, same, c.if-binding-other.true))
