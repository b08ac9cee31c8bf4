use Rattle.cert_format.proofs.Lengths.{one_few, one_many}
use Rattle.cert_format.proofs.reading.one.Goals as goal

pub returns-in-len2-up : goal.returns-in-len2-up
returns-in-len2-up g c = one_many g.A.FromJson.found c.args.parts.now c.in-len2-up.len_at_least

pub returns-in_default : goal.returns-in_default
returns-in_default g c = one_few g.A.FromJson.found c.args.parts.now c.in_default.len_below
