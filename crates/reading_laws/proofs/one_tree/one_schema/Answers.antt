use Rattle.reading_laws.proofs.OneTree.{one_schema, one_table}
use Rattle.reading_laws.proofs.one_tree.one_schema.Goals as goal

pub returns : goal.returns
returns c = record { table = one_table; schema = one_schema }
