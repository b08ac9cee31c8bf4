use Rattle.worked_laws.proofs.Examples.{unknown_check_is_met, false_check_is_not_met, null_refers_to_nothing, dangling_is_not_met, reference_is_met, nulls_may_repeat_in_a_key, values_may_not_repeat_in_a_key, rows_may_repeat_without_a_key, text_is_in_no_number_column}
use Rattle.worked_laws.proofs.meaning.worked_constraints.Goals as goal

pub returns-clause-unknown_check_is_met : goal.returns-clause-unknown_check_is_met
returns-clause-unknown_check_is_met c = unknown_check_is_met

pub returns-clause-false_check_is_not_met : goal.returns-clause-false_check_is_not_met
returns-clause-false_check_is_not_met c = false_check_is_not_met

pub returns-clause-null_refers_to_nothing : goal.returns-clause-null_refers_to_nothing
returns-clause-null_refers_to_nothing c = null_refers_to_nothing

pub returns-clause-dangling_is_not_met : goal.returns-clause-dangling_is_not_met
returns-clause-dangling_is_not_met c = dangling_is_not_met

pub returns-clause-reference_is_met : goal.returns-clause-reference_is_met
returns-clause-reference_is_met c = reference_is_met

pub returns-clause-nulls_may_repeat_in_a_key : goal.returns-clause-nulls_may_repeat_in_a_key
returns-clause-nulls_may_repeat_in_a_key c = nulls_may_repeat_in_a_key

pub returns-clause-values_may_not_repeat_in_a_key : goal.returns-clause-values_may_not_repeat_in_a_key
returns-clause-values_may_not_repeat_in_a_key c = values_may_not_repeat_in_a_key

pub returns-clause-rows_may_repeat_without_a_key : goal.returns-clause-rows_may_repeat_without_a_key
returns-clause-rows_may_repeat_without_a_key c = rows_may_repeat_without_a_key

pub returns-clause-text_is_in_no_number_column : goal.returns-clause-text_is_in_no_number_column
returns-clause-text_is_in_no_number_column c = text_is_in_no_number_column
