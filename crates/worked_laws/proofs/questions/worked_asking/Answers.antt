use Rattle.worked_laws.proofs.QuestionExamples.{star_is_asked_whether_empty, scalar_is_asked_first, not_in_is_asked_last, entry_not_selected_is_asked}
use Rattle.worked_laws.proofs.questions.worked_asking.Goals as goal

pub returns-clause-star_is_asked_whether_empty : goal.returns-clause-star_is_asked_whether_empty
returns-clause-star_is_asked_whether_empty c = star_is_asked_whether_empty

pub returns-clause-scalar_is_asked_first : goal.returns-clause-scalar_is_asked_first
returns-clause-scalar_is_asked_first c = scalar_is_asked_first

pub returns-clause-not_in_is_asked_last : goal.returns-clause-not_in_is_asked_last
returns-clause-not_in_is_asked_last c = not_in_is_asked_last

pub returns-clause-entry_not_selected_is_asked : goal.returns-clause-entry_not_selected_is_asked
returns-clause-entry_not_selected_is_asked c = entry_not_selected_is_asked
