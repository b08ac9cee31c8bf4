use Rattle.std.proofs.Common.{rules, of_calls}
use Rattle.sql_parse.specs.inner.readers.Terms.{read_name}
use Rattle.sql_parse.proofs.Separated.{gives_shorter}
use Rattle.sql_parse.proofs.Shorter.{name_shorter}
use Rattle.sql_parse.proofs.terms.listed_names.Goals as goal

pub separated-requires : goal.separated-requires
separated-requires c κs = search (rules, of_calls, gives_shorter read_name name_shorter) parts 8

pub returns : goal.returns
returns c = c.separated.ensures read_name name_shorter (λ at r post. search rules)
