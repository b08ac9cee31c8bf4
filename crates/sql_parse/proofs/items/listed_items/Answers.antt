use Rattle.std.proofs.Common.{rules, of_calls}
use Rattle.sql_parse.specs.inner.readers.Items.{read_item}
use Rattle.sql_parse.proofs.Separated.{gives_shorter}
use Rattle.sql_parse.proofs.Shorter.{item_shorter}
use Rattle.sql_parse.proofs.items.listed_items.Goals as goal

pub separated-requires : goal.separated-requires
separated-requires c κs = search (rules, of_calls, gives_shorter read_item item_shorter) parts 8

pub returns : goal.returns
returns c = c.separated.ensures read_item item_shorter (λ at r post. search rules)
