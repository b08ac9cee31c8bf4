use Rattle.ground_theory.proofs.Widened.{right_leaves_exclude}
use Rattle.ground_theory.proofs.laws.right_leaves_exclude.Goals as goal

pub returns : goal.returns
returns c = right_leaves_exclude
