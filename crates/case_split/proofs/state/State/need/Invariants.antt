use Rattle.std.proofs.Common.{◌≡◌, drop}
use Rattle.case_split.specs.inner.Entries.{mark_all}
use Rattle.case_split.proofs.state.State.need.Given as goal

abbrev pub invariant-loop-guard : goal.invariant-loop-guard
invariant-loop-guard l = record {
  tried : l.self.tried ≡ l.initial.self.tried;
  chosen : l.self.chosen.items ≡ l.initial.self.chosen.items;
  needed : mark_all l.self.needed.items (drop l.guard-index l.guards) ≡ mark_all l.initial.self.needed.items l.guards;
  entries : l.self.entries.items ≡ l.initial.self.entries.items;
}
