use Rattle.case_split.specs.inner.Entries.{IsReady}
use Rattle.case_split.specs.inner.Kept.{IsKept}
use Rattle.case_split.proofs.searching.look_for.Given as goal

abbrev pub invariant-loop-round : goal.invariant-loop-round
invariant-loop-round l = record {
  ready : IsReady l.clauses l.frame l.state l.from;
  kept : IsKept l.frame l.kept;
}
