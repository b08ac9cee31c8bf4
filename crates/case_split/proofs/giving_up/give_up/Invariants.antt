use Rattle.case_split.specs.inner.Sizes.{weight_of_all}
use Rattle.case_split.proofs.giving_up.give_up.Given as goal

abbrev pub decreases-loop-alloc : goal.decreases-loop-alloc
decreases-loop-alloc l = weight_of_all l.cases.items
