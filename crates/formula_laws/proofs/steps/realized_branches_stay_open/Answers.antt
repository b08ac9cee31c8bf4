use Rattle.std.proofs.Common.{[]}
use Rattle.formula_laws.proofs.StepsRealized.{some_child, step_realized}
use Rattle.formula_laws.proofs.steps.realized_branches_stay_open.Goals as goal

pub returns-clause-some_child : goal.returns-clause-some_child
returns-clause-some_child c = λ schema db domains branch places realized step bs made. some_child schema db domains branch places realized step bs made

pub returns-clause-not_closed : goal.returns-clause-not_closed
returns-clause-not_closed c = λ schema db domains branch places realized step made. step_realized schema db domains branch places realized step [] made
