use Rattle.sql_parse.proofs.Places.{is_long}
use Rattle.sql_parse.proofs.refusals.too_long.Goals as goal

pub returns-clause-long : goal.returns-clause-long
returns-clause-long c = is_long c.args.tokens.now c.in_ok-token.token.now c.in_ok-token.ensures.lookup.3.0 c.in_ok-token.ensures.lookup.1
