use Rattle.std.proofs.Common.{◌≡◌, ◌<◌, ℕ, List, length}
use Rattle.diff_bounds.specs.inner.Relaxing.{Ends, IsSettled}
use Rattle.diff_bounds.proofs.relaxing.find_ring.Given as goal

abbrev pub invariant-loop-root : goal.invariant-loop-root
invariant-loop-root l = record {
  count : length l.marks.items ≡ length l.reasons;
  settled : IsSettled l.edges l.reasons l.root l.marks.items;
  ends : (at : ℕ) → at < l.root → (es : List ℕ) × Ends l.edges l.reasons at es;
}
