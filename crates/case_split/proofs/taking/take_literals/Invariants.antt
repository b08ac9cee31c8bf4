use Rattle.std.proofs.Common.{take}
use Rattle.case_split.specs.inner.Steps.{IsTaken}
use Rattle.case_split.proofs.taking.take_literals.Given as goal

abbrev pub invariant-loop-number : goal.invariant-loop-number
invariant-loop-number l = IsTaken l.clauses l.frame (take l.number l.chosen) l.taken
