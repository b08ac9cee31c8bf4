use Rattle.formula_laws.proofs.WrongSteps.{are_right, cause, only_number}
use Rattle.sort_formula.specs.Certificate.{first_branch}
use Rattle.std.proofs.Common.{[], ◌∷◌}
use Rattle.formula_laws.proofs.steps.wrong_steps_are_numbered.Goals as goal

pub returns-clause-accepted : goal.returns-clause-accepted
returns-clause-accepted c = λ schema sentence steps. are_right schema 1 steps (first_branch schema sentence ∷ [])

pub returns-clause-closing : goal.returns-clause-closing
returns-clause-closing c = λ number schema steps branches. are_right schema number steps branches

pub returns-clause-cause : goal.returns-clause-cause
returns-clause-cause c = λ number schema steps branches n at. cause schema number steps branches n at

pub returns-clause-no_other : goal.returns-clause-no_other
returns-clause-no_other c = λ number schema steps branches before low bs right wrong. only_number schema number steps branches before low bs right wrong
