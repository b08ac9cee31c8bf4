use Rattle.std.proofs.Common.{refl}
use Rattle.sql_bind.proofs.Tables.{over_one}
use Rattle.sql_bind.proofs.schemas.bind_over.Goals as goal

pub returns : goal.returns
returns c = over_one c.args.tables.now c.args.tree.now c.args.entries _ _ c.bind_condition.result refl refl c.bind_condition.ensures
