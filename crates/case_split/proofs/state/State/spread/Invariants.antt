use Rattle.case_split.specs.inner.Entries.{IsSpreading}
use Rattle.case_split.proofs.state.State.spread.Given as goal

abbrev pub invariant-loop-number : goal.invariant-loop-number
invariant-loop-number l = IsSpreading l.clauses l.frame l.self l.number l.fork
