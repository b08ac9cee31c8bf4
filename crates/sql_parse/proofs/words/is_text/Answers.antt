use Rattle.std.proofs.Common.{◌∙◌}
use Rattle.sql_parse.proofs.Called.{text_eq}
use Rattle.sql_parse.proofs.words.is_text.Goals as goal

pub returns : goal.returns
returns c = c.eq.ensures ∙ text_eq c.as_str.result.now c.args.text.now c.args.word.now c.as_str.ensures.characters c.as_str.ensures.bytes c.utf8.word
