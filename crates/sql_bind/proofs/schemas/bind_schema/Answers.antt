use Rattle.sql_bind.proofs.SchemaMade.{schema_there}
use Rattle.sql_bind.proofs.schemas.bind_schema.Goals as goal

pub unwrap-requires : goal.unwrap-requires
unwrap-requires c = schema_there c.args.tables.now c.in_ok-bound.bound c.new.result c.requires.shaped c.in_ok-bound.ensures c.new.ensures.none
