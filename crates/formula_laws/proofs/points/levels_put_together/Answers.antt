use Rattle.formula_laws.proofs.InLevels.{flattened, levelled}
use Rattle.formula_laws.proofs.points.levels_put_together.Goals as goal

pub returns-clause-places : goal.returns-clause-places
returns-clause-places c = λ shape places same. flattened shape places same

pub returns-clause-levels : goal.returns-clause-levels
returns-clause-levels c = λ shape levels same. levelled shape levels same
