use Rattle.command_words.proofs.Grammar.{limits_kept}
use Rattle.command_words.proofs.laws.budgets_are_small.Goals as goal

pub returns : goal.returns
returns c = λ words wanted is. limits_kept words wanted is
