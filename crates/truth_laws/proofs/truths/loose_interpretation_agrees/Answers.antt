use Rattle.truth_laws.proofs.Agreeing.{outcome_leads}
use Rattle.truth_laws.proofs.truths.loose_interpretation_agrees.Goals as goal

pub returns : goal.returns
returns c = λ schema db domains query fits question asked given points fails decided. outcome_leads schema db domains query fits question asked given points fails decided
