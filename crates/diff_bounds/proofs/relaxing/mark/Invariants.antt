use Rattle.std.proofs.Common.{◌≡◌, ◌<◌, length, sum_by, None}
use Rattle.diff_bounds.specs.inner.Relaxing.{mark_of}
use Rattle.diff_bounds.proofs.Marking.{IsOnTheWay, unmarked}
use Rattle.diff_bounds.proofs.relaxing.mark.Given as goal

abbrev pub invariant-loop-at : goal.invariant-loop-at
invariant-loop-at l = record {
  within : l.at < length l.reasons;
  count : length l.marks ≡ length l.reasons;
  free : mark_of l.marks l.at ≡ None;
  known : IsOnTheWay l.edges l.reasons l.root l.at l.marks;
}

-- each turn marks one variable more
abbrev pub decreases-loop-at : goal.decreases-loop-at
decreases-loop-at l = sum_by unmarked l.marks
