use Rattle.std.proofs.Common.{[], refl}
use Rattle.case_split.proofs.Closed.{closes}
use Rattle.case_split.proofs.laws.closed_trees_exclude.Goals as goal

pub returns-clause-under_choices : goal.returns-clause-under_choices
returns-clause-under_choices c = λ clauses frame forward tree. closes clauses frame forward tree

pub returns-clause-under_none : goal.returns-clause-under_none
returns-clause-under_none c = λ clauses frame forward tree closed full is. closes clauses frame forward tree [] closed full is refl
