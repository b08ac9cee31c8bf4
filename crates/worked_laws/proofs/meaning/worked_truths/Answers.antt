use Rattle.worked_laws.proofs.Examples.{null_is_no_null, one_row_is_its_value, not_in_null, not_in_nothing, no_row_is_null, two_rows_are_no_value, false_beside_two_rows, exists_is_never_unknown, texts_are_not_padded, texts_have_no_order, sums_do_not_overflow, nulls_are_not_distinct}
use Rattle.worked_laws.proofs.meaning.worked_truths.Goals as goal

pub returns-clause-null_is_no_null : goal.returns-clause-null_is_no_null
returns-clause-null_is_no_null c = null_is_no_null

pub returns-clause-not_in_null : goal.returns-clause-not_in_null
returns-clause-not_in_null c = not_in_null

pub returns-clause-not_in_nothing : goal.returns-clause-not_in_nothing
returns-clause-not_in_nothing c = not_in_nothing

pub returns-clause-no_row_is_null : goal.returns-clause-no_row_is_null
returns-clause-no_row_is_null c = no_row_is_null

pub returns-clause-two_rows_are_no_value : goal.returns-clause-two_rows_are_no_value
returns-clause-two_rows_are_no_value c = two_rows_are_no_value

pub returns-clause-false_beside_two_rows : goal.returns-clause-false_beside_two_rows
returns-clause-false_beside_two_rows c = false_beside_two_rows

pub returns-clause-exists_is_never_unknown : goal.returns-clause-exists_is_never_unknown
returns-clause-exists_is_never_unknown c = exists_is_never_unknown

pub returns-clause-texts_are_not_padded : goal.returns-clause-texts_are_not_padded
returns-clause-texts_are_not_padded c = texts_are_not_padded

pub returns-clause-texts_have_no_order : goal.returns-clause-texts_have_no_order
returns-clause-texts_have_no_order c = texts_have_no_order

pub returns-clause-sums_do_not_overflow : goal.returns-clause-sums_do_not_overflow
returns-clause-sums_do_not_overflow c = sums_do_not_overflow

pub returns-clause-nulls_are_not_distinct : goal.returns-clause-nulls_are_not_distinct
returns-clause-nulls_are_not_distinct c = nulls_are_not_distinct

pub returns-clause-one_row_is_its_value : goal.returns-clause-one_row_is_its_value
returns-clause-one_row_is_its_value c = one_row_is_its_value
