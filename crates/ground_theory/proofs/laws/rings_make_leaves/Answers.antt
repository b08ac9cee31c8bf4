use Rattle.ground_theory.proofs.SumLeaves.{rings_make_leaves}
use Rattle.ground_theory.proofs.laws.rings_make_leaves.Goals as goal

pub returns : goal.returns
returns c = rings_make_leaves
