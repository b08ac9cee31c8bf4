use Rattle.std.proofs.Common.{refl}
use Rattle.lint_core.specs.Fits.{selection_fits_in}
use Rattle.worked_laws.proofs.FitParts.{by_parts, many_parts}
use Rattle.worked_laws.proofs.fits.worked_fitting.Goals as goal

pub returns-clause-of_one_kind : goal.returns-clause-of_one_kind
unfolding selection_fits_in
returns-clause-of_one_kind c = simp by_parts refl

pub returns-clause-of_no_column : goal.returns-clause-of_no_column
unfolding selection_fits_in
returns-clause-of_no_column c = simp by_parts refl

pub returns-clause-texts_in_order : goal.returns-clause-texts_in_order
unfolding selection_fits_in
returns-clause-texts_in_order c = simp by_parts refl

pub returns-clause-numbers_with_texts : goal.returns-clause-numbers_with_texts
unfolding selection_fits_in
returns-clause-numbers_with_texts c = simp by_parts refl

pub returns-clause-with_null : goal.returns-clause-with_null
unfolding selection_fits_in
returns-clause-with_null c = simp by_parts refl

pub returns-clause-texts_in_order_with_null : goal.returns-clause-texts_in_order_with_null
unfolding selection_fits_in
returns-clause-texts_in_order_with_null c = simp by_parts refl

pub returns-clause-added_to_a_text : goal.returns-clause-added_to_a_text
unfolding selection_fits_in
returns-clause-added_to_a_text c = simp by_parts refl

pub returns-clause-is_null_of : goal.returns-clause-is_null_of
unfolding selection_fits_in
returns-clause-is_null_of c = simp by_parts refl

pub returns-clause-is_null_of_nothing : goal.returns-clause-is_null_of_nothing
unfolding selection_fits_in
returns-clause-is_null_of_nothing c = simp by_parts refl

pub returns-clause-selections : goal.returns-clause-selections
unfolding selection_fits_in
returns-clause-selections c = simp by_parts refl

pub returns-clause-too_many : goal.returns-clause-too_many
unfolding selection_fits_in
returns-clause-too_many c = simp by_parts refl

pub returns-clause-of_no_table : goal.returns-clause-of_no_table
unfolding selection_fits_in
returns-clause-of_no_table c = refl

pub returns-clause-added : goal.returns-clause-added
unfolding selection_fits_in
returns-clause-added c = refl

pub returns-clause-most_conditions : goal.returns-clause-most_conditions
unfolding selection_fits_in
returns-clause-most_conditions c = simp (many_parts, by_parts) refl

pub returns-clause-too_many_conditions : goal.returns-clause-too_many_conditions
unfolding selection_fits_in
returns-clause-too_many_conditions c = simp (many_parts, by_parts) refl
