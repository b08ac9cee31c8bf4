use Rattle.worked_laws.proofs.QuestionExamples.{row_is_in_the_answer, no_such_row, distinct_from_the_constant, the_constant, nulls_need_distinct, equal_rows_need_distinct, one_row_needs_no_distinct, two_rows_are_too_many, one_row_is_not_two, two_rows_leave_it_undecided, null_is_in_not_in, value_is_no_null, no_row_fits, one_row_fits, two_rows_fit, predicate_is_needed, predicate_is_true, predicate_can_be_true, predicate_is_false, equal_rows_at_two_places, one_place}
use Rattle.worked_laws.proofs.questions.worked_refuting.Goals as goal

pub returns-clause-row_is_in_the_answer : goal.returns-clause-row_is_in_the_answer
returns-clause-row_is_in_the_answer c = row_is_in_the_answer

pub returns-clause-no_such_row : goal.returns-clause-no_such_row
returns-clause-no_such_row c = no_such_row

pub returns-clause-distinct_from_the_constant : goal.returns-clause-distinct_from_the_constant
returns-clause-distinct_from_the_constant c = distinct_from_the_constant

pub returns-clause-the_constant : goal.returns-clause-the_constant
returns-clause-the_constant c = the_constant

pub returns-clause-nulls_need_distinct : goal.returns-clause-nulls_need_distinct
returns-clause-nulls_need_distinct c = nulls_need_distinct

pub returns-clause-equal_rows_need_distinct : goal.returns-clause-equal_rows_need_distinct
returns-clause-equal_rows_need_distinct c = equal_rows_need_distinct

pub returns-clause-one_row_needs_no_distinct : goal.returns-clause-one_row_needs_no_distinct
returns-clause-one_row_needs_no_distinct c = one_row_needs_no_distinct

pub returns-clause-two_rows_are_too_many : goal.returns-clause-two_rows_are_too_many
returns-clause-two_rows_are_too_many c = two_rows_are_too_many

pub returns-clause-one_row_is_not_two : goal.returns-clause-one_row_is_not_two
returns-clause-one_row_is_not_two c = one_row_is_not_two

pub returns-clause-two_rows_leave_it_undecided : goal.returns-clause-two_rows_leave_it_undecided
returns-clause-two_rows_leave_it_undecided c = two_rows_leave_it_undecided

pub returns-clause-null_is_in_not_in : goal.returns-clause-null_is_in_not_in
returns-clause-null_is_in_not_in c = null_is_in_not_in

pub returns-clause-value_is_no_null : goal.returns-clause-value_is_no_null
returns-clause-value_is_no_null c = value_is_no_null

pub returns-clause-no_row_fits : goal.returns-clause-no_row_fits
returns-clause-no_row_fits c = no_row_fits

pub returns-clause-one_row_fits : goal.returns-clause-one_row_fits
returns-clause-one_row_fits c = one_row_fits

pub returns-clause-two_rows_fit : goal.returns-clause-two_rows_fit
returns-clause-two_rows_fit c = two_rows_fit

pub returns-clause-predicate_is_needed : goal.returns-clause-predicate_is_needed
returns-clause-predicate_is_needed c = predicate_is_needed

pub returns-clause-predicate_is_true : goal.returns-clause-predicate_is_true
returns-clause-predicate_is_true c = predicate_is_true

pub returns-clause-predicate_can_be_true : goal.returns-clause-predicate_can_be_true
returns-clause-predicate_can_be_true c = predicate_can_be_true

pub returns-clause-predicate_is_false : goal.returns-clause-predicate_is_false
returns-clause-predicate_is_false c = predicate_is_false

pub returns-clause-equal_rows_at_two_places : goal.returns-clause-equal_rows_at_two_places
returns-clause-equal_rows_at_two_places c = equal_rows_at_two_places

pub returns-clause-one_place : goal.returns-clause-one_place
returns-clause-one_place c = one_place
