use Rattle.sql_lex.proofs.Lexed.{every_lexed}
use Rattle.reading_laws.proofs.lexing.every_text_has_a_lexing.Goals as goal

pub returns : goal.returns
returns c = every_lexed
