use Rattle.std.proofs.Common.{refl}
use Rattle.worked_laws.proofs.FitParts.{by_parts, many_parts}
use Rattle.worked_laws.proofs.fits.worked_checks.Goals as goal

pub returns-clause-fitting : goal.returns-clause-fitting
returns-clause-fitting c = simp by_parts refl

pub returns-clause-of_no_column : goal.returns-clause-of_no_column
returns-clause-of_no_column c = simp by_parts refl

pub returns-clause-texts_in_order : goal.returns-clause-texts_in_order
returns-clause-texts_in_order c = simp by_parts refl

pub returns-clause-with_subquery : goal.returns-clause-with_subquery
returns-clause-with_subquery c = simp by_parts refl

pub returns-clause-most_conditions : goal.returns-clause-most_conditions
returns-clause-most_conditions c = simp many_parts refl

pub returns-clause-too_many_conditions : goal.returns-clause-too_many_conditions
returns-clause-too_many_conditions c = simp many_parts refl
