use Rattle.command_words.proofs.Grammar.{read_is_said, said_is_read}
use Rattle.command_words.proofs.laws.words_are_read_by_the_grammar.Goals as goal

pub returns : goal.returns
returns c = λ words wanted. (read_is_said words wanted, said_is_read words wanted)
