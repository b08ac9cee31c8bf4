use Rattle.ground_theory.proofs.RightLeaves.{leaf_moves, renumbered}
use Rattle.ground_theory.proofs.laws.leaves_move.Goals as goal

pub returns-clause-closing : goal.returns-clause-closing
returns-clause-closing c = λ frame literals leaf right facts rows schema branch is. leaf_moves frame literals facts rows schema branch is leaf right

pub returns-clause-renumbered : goal.returns-clause-renumbered
returns-clause-renumbered c = renumbered
