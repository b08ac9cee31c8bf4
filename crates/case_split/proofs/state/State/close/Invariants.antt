use Rattle.std.proofs.Common.{◌≡◌, length}
use Rattle.case_split.specs.inner.Entries.{IsRefuted}
use Rattle.case_split.proofs.state.State.close.Given as goal

abbrev pub invariant-loop-entry : goal.invariant-loop-entry
invariant-loop-entry l = record {
  tried : l.self.tried ≡ l.initial.self.tried;
  refuted : IsRefuted l.clauses l.frame l.self l.tree;
}

abbrev pub decreases-loop-entry : goal.decreases-loop-entry
decreases-loop-entry l = length l.self.entries.items
