use Rattle.std.proofs.Common.{arith}
use Rattle.sql_meaning.proofs.Places.{not_rows}
use Rattle.sql_meaning.proofs.points.are_rows.Goals as goal

pub returns-then-tables-rows : goal.returns-then-tables-rows
returns-then-tables-rows c = not_rows c.args.database.now c.args.tables.now c.args.rows.now (λ same. omega (arith, same, c.if-tables-rows.true))
