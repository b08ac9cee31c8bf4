use Rattle.std.proofs.Common.{◌+◌}
use Rattle.lint_base.proofs.Lists.{every_at}
use Rattle.lint_core.specs.Conjuncts.{conjuncts}
use Rattle.lint_core.specs.Subqueries.{scalar_subqueries, not_in_subqueries}
use Rattle.truth_formula.specs.Scopes.{count_entries}
use Rattle.question_truths.specs.Room.{entries_in}
use Rattle.question_truths.proofs.Room.{few_entries}
use Rattle.question_truths.proofs.RoomInside.{Within, room_inside, no_more, OfCond, conjuncts_less}
use Rattle.question_truths.proofs.laws.parts_of_conditions_have_room.Goals as goal

pub returns-clause-condition : goal.returns-clause-condition
returns-clause-condition c = λ schema cond tables fits. few_entries schema cond tables fits

pub returns-clause-scalars : goal.returns-clause-scalars
returns-clause-scalars c = λ cond tables number sub at. every_at (Within (entries_in tables + count_entries cond)) (scalar_subqueries cond tables) number sub (room_inside cond tables).0 at

pub returns-clause-not_ins : goal.returns-clause-not_ins
returns-clause-not_ins c = λ cond tables number sub at. every_at (Within (entries_in tables + count_entries cond)) (not_in_subqueries cond tables) number sub (room_inside cond tables).1 at

pub returns-clause-replaced : goal.returns-clause-replaced
returns-clause-replaced c = λ by cond predicate none. no_more by none cond predicate

pub returns-clause-conjunct : goal.returns-clause-conjunct
returns-clause-conjunct c = λ cond number part at. every_at (OfCond cond) (conjuncts cond) number part (conjuncts_less cond) at
