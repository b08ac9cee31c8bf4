use Rattle.std.proofs.Common.{◌+◌, length}
use Rattle.diff_bounds.specs.inner.Relaxing.{IsSound, IsAbove, DoneBefore}
use Rattle.diff_bounds.proofs.relaxing.Search.relax_all.Given as goal

abbrev pub invariant-loop-number : goal.invariant-loop-number
invariant-loop-number l = record {
  sound : IsSound l.edges (length l.initial.self.values.items) l.self;
  above : IsAbove l.self.values.items (32769 + l.number);
  done : DoneBefore l.edges l.number l.initial.self l.self l.lowered;
}
