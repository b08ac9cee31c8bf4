use Rattle.std.proofs.Common.{rules, of_calls}
use Rattle.sql_parse.specs.inner.readers.Terms.{read_value}
use Rattle.sql_parse.proofs.Separated.{gives_shorter}
use Rattle.sql_parse.proofs.Shorter.{value_shorter}
use Rattle.sql_parse.proofs.predicates.listed_values.Goals as goal

pub separated-requires : goal.separated-requires
separated-requires c κs = search (rules, of_calls, gives_shorter read_value value_shorter) parts 8

pub returns : goal.returns
returns c = c.separated.ensures read_value value_shorter (λ at r post. search rules)
