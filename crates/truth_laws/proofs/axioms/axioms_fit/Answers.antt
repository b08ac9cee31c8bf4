use Rattle.truth_laws.proofs.AxiomsFit.{all_fit}
use Rattle.truth_laws.proofs.axioms.axioms_fit.Goals as goal

pub returns : goal.returns
returns c = all_fit c.formulas_fit.ensures.says_false
