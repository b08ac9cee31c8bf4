use Rattle.case_split.proofs.Counting as counting
use Rattle.case_split.proofs.laws.choices_are_ordered.Goals as goal

pub returns-clause-never_itself : goal.returns-clause-never_itself
returns-clause-never_itself c = counting.never_before_itself

pub returns-clause-in_turn : goal.returns-clause-in_turn
returns-clause-in_turn c = counting.before_before

pub returns-clause-neither : goal.returns-clause-neither
returns-clause-neither c = counting.neither_before
