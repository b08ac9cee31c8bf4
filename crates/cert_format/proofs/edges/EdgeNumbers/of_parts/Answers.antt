use Rattle.std.proofs.Common.{sym}
use Rattle.cert_format.proofs.Lengths.{edge_few, edge_many}
use Rattle.cert_format.proofs.edges.EdgeNumbers.of_parts.Goals as goal

pub returns-in_default : goal.returns-in_default
returns-in_default c = sym (edge_few c.args.parts.now c.in_default.len_below)

pub returns-in_default-2 : goal.returns-in_default-2
returns-in_default-2 c = sym (edge_many c.args.parts.now c.in_default.len_at_least)
