use Rattle.std.proofs.Common.{rules, of_calls}
use Rattle.sql_parse.specs.inner.readers.Queries.{read_key}
use Rattle.sql_parse.proofs.Separated.{gives_shorter}
use Rattle.sql_parse.proofs.Shorter.{key_shorter}
use Rattle.sql_parse.proofs.orders.listed_keys.Goals as goal

pub separated-requires : goal.separated-requires
separated-requires c κs = search (rules, of_calls, gives_shorter read_key key_shorter) parts 8

pub returns : goal.returns
returns c = c.separated.ensures read_key key_shorter (λ at r post. search rules)
