use Rattle.std.proofs.Common.{refl}
use Rattle.worked_laws.proofs.FitParts.{check_true}
use Rattle.worked_laws.proofs.fits.worked_schemas.Goals as goal

pub returns-clause-sizes : goal.returns-clause-sizes
returns-clause-sizes c = simp check_true refl
