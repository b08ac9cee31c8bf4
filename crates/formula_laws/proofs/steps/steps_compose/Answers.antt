use Rattle.std.proofs.Common.{[], ◌∷◌}
use Rattle.formula_laws.proofs.Composing.{after_append, waiting_stay, before_others}
use Rattle.formula_laws.proofs.steps.steps_compose.Goals as goal

pub returns-clause-appended : goal.returns-clause-appended
returns-clause-appended c = λ schema xs ys bs. after_append schema xs ys bs

pub returns-clause-waiting : goal.returns-clause-waiting
returns-clause-waiting c = λ schema xs bs cs ds at. waiting_stay schema xs bs cs ds at

pub returns-clause-before_others : goal.returns-clause-before_others
returns-clause-before_others c = λ schema xs ys bs cs ds at. before_others schema xs ys bs cs ds at

pub returns-clause-closing : goal.returns-clause-closing
returns-clause-closing c = λ schema xs ys b ds at. before_others schema xs ys (b ∷ []) [] ds at
