use Rattle.cert_format.proofs.Lengths.{two_few, two_many}
use Rattle.cert_format.proofs.reading.two.Goals as goal

pub returns-in-len3-up : goal.returns-in-len3-up
returns-in-len3-up g c = two_many g.A.FromJson.found g.B.FromJson.found c.args.parts.now c.in-len3-up.len_at_least

pub returns-in_default : goal.returns-in_default
returns-in_default g c = two_few g.A.FromJson.found g.B.FromJson.found c.args.parts.now c.in_default.len_below
