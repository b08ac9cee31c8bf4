-- the lines compute
use Rattle.std.proofs.Common.{refl}
use Rattle.command_words.proofs.laws.worked_words.Goals as goal

pub returns-clause-accepted : goal.returns-clause-accepted
returns-clause-accepted c = refl

pub returns-clause-refused : goal.returns-clause-refused
returns-clause-refused c = refl
