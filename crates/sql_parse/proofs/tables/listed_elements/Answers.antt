use Rattle.std.proofs.Common.{rules, of_calls}
use Rattle.sql_parse.specs.inner.readers.Tables.{read_element}
use Rattle.sql_parse.proofs.Separated.{gives_shorter}
use Rattle.sql_parse.proofs.Shorter.{element_shorter}
use Rattle.sql_parse.proofs.tables.listed_elements.Goals as goal

pub separated-requires : goal.separated-requires
separated-requires c κs = search (rules, of_calls, gives_shorter (read_element c.args.depth) (element_shorter c.args.depth)) parts 8

pub returns : goal.returns
returns c = c.separated.ensures (read_element c.args.depth) (element_shorter c.args.depth) (λ at r post. search rules)
