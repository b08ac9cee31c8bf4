use Rattle.formula_laws.proofs.Complements.{complements}
use Rattle.formula_laws.proofs.laws.negation_complements.Goals as goal

pub returns : goal.returns
returns c = λ schema db domains formula rows fits. complements schema db domains formula rows fits
