use Rattle.formula_laws.proofs.Renaming.{renames}
use Rattle.formula_laws.proofs.laws.placing_renames.Goals as goal

pub returns : goal.returns
returns c = λ db numbers depth formula rows others deep same. renames db numbers depth rows others deep same formula
