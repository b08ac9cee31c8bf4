use Rattle.std.proofs.Common.{refl}
use Rattle.lint_core.specs.Fits.{selection_fits_in}
use Rattle.worked_laws.proofs.FitParts.{by_parts}
use Rattle.worked_laws.proofs.fits.worked_subqueries.Goals as goal

pub returns-clause-of_one_kind : goal.returns-clause-of_one_kind
unfolding selection_fits_in
returns-clause-of_one_kind c = simp by_parts refl

pub returns-clause-of_other_kinds : goal.returns-clause-of_other_kinds
unfolding selection_fits_in
returns-clause-of_other_kinds c = simp by_parts refl

pub returns-clause-of_nothing : goal.returns-clause-of_nothing
unfolding selection_fits_in
returns-clause-of_nothing c = simp by_parts refl

pub returns-clause-added : goal.returns-clause-added
unfolding selection_fits_in
returns-clause-added c = simp by_parts refl

pub returns-clause-in_texts : goal.returns-clause-in_texts
unfolding selection_fits_in
returns-clause-in_texts c = simp by_parts refl

pub returns-clause-in_others : goal.returns-clause-in_others
unfolding selection_fits_in
returns-clause-in_others c = simp by_parts refl

pub returns-clause-of_the_inner : goal.returns-clause-of_the_inner
unfolding selection_fits_in
returns-clause-of_the_inner c = simp by_parts refl

pub returns-clause-of_others : goal.returns-clause-of_others
unfolding selection_fits_in
returns-clause-of_others c = simp by_parts refl
