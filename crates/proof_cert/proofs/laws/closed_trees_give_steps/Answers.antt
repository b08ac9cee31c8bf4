use Rattle.proof_cert.proofs.Starting.{tree_accepted, problem_refuted}
use Rattle.proof_cert.proofs.laws.closed_trees_give_steps.Goals as goal

pub returns-clause-closing : goal.returns-clause-closing
returns-clause-closing c = λ schema problem hanging domains facts stand tree closed. tree_accepted schema problem hanging domains facts stand tree closed

pub returns-clause-accepted : goal.returns-clause-accepted
returns-clause-accepted c = problem_refuted
