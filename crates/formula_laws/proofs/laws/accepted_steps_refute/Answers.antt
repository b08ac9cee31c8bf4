use Rattle.formula_laws.proofs.StepsRealized.{refuted}
use Rattle.formula_laws.proofs.laws.accepted_steps_refute.Goals as goal

pub returns : goal.returns
returns c = λ schema sentence steps accepted db domains all. refuted schema db domains sentence steps accepted all
