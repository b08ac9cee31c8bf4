use Rattle.command_words.proofs.Behind.{strips}
use Rattle.command_words.proofs.parts.behind.Goals as goal

pub returns : goal.returns
returns c = strips c.args.front.now c.args.word.now c.strip_prefix.result c.strip_prefix.ensures.cases
