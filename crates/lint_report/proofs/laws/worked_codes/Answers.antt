-- each text computes, once that of the question's place is put in
use Rattle.std.proofs.Common.{refl}
use Rattle.std.specs.Fmt.{digits}
use Rattle.lint_report.specs.Text.{code_text, asked_text}
use Rattle.lint_report.proofs.laws.worked_codes.Goals as goal

pub returns-clause-one_row : goal.returns-clause-one_row
unfolding digits code_text asked_text
returns-clause-one_row c query at = rw at refl

pub returns-clause-empty : goal.returns-clause-empty
unfolding digits code_text asked_text
returns-clause-empty c query at = rw at refl

pub returns-clause-distinct : goal.returns-clause-distinct
unfolding digits code_text asked_text
returns-clause-distinct c query at = rw at refl

pub returns-clause-constant : goal.returns-clause-constant
unfolding digits code_text asked_text
returns-clause-constant c query at = rw at refl

pub returns-clause-duplicate : goal.returns-clause-duplicate
unfolding digits code_text asked_text
returns-clause-duplicate c query at = rw at refl

pub returns-clause-join : goal.returns-clause-join
unfolding digits code_text asked_text
returns-clause-join c query at = rw at refl

pub returns-clause-implied : goal.returns-clause-implied
unfolding digits code_text asked_text
returns-clause-implied c query at = rw at refl

pub returns-clause-impossible : goal.returns-clause-impossible
unfolding digits code_text asked_text
returns-clause-impossible c query at = rw at refl

pub returns-clause-same_row : goal.returns-clause-same_row
unfolding digits code_text asked_text
returns-clause-same_row c query at = rw at refl

pub returns-clause-null_in_not_in : goal.returns-clause-null_in_not_in
unfolding digits code_text asked_text
returns-clause-null_in_not_in c query at = rw at refl
