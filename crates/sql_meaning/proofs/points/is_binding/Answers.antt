use Rattle.std.proofs.Common.{arith}
use Rattle.sql_meaning.proofs.Places.{not_binding}
use Rattle.sql_meaning.proofs.points.is_binding.Goals as goal

pub returns-then-tables-levels : goal.returns-then-tables-levels
returns-then-tables-levels c = not_binding c.args.database.now c.args.tables.now c.args.levels.now (λ same. omega (arith, same, c.if-tables-levels.true))
