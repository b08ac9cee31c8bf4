use Rattle.cert_format.proofs.Lengths.{three_few, three_many}
use Rattle.cert_format.proofs.reading.three.Goals as goal

pub returns-in-len4-up : goal.returns-in-len4-up
returns-in-len4-up g c = three_many g.A.FromJson.found g.B.FromJson.found g.C.FromJson.found c.args.parts.now c.in-len4-up.len_at_least

pub returns-in_default : goal.returns-in_default
returns-in_default g c = three_few g.A.FromJson.found g.B.FromJson.found g.C.FromJson.found c.args.parts.now c.in_default.len_below
