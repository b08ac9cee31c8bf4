use Rattle.truth_laws.proofs.Constraints.{axioms_hold}
use Rattle.truth_laws.proofs.axioms.axioms_are_the_constraints.Goals as goal

pub returns : goal.returns
returns c = axioms_hold c.formulas_say_truth.ensures.says_false c.formulas_fit.ensures.says_false
