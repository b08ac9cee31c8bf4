use Rattle.diff_bounds.specs.inner.Relaxing.{IsSound, AllEnd, height}
use Rattle.diff_bounds.proofs.relaxing.solve.Given as goal

abbrev pub invariant-loop-alloc : goal.invariant-loop-alloc
invariant-loop-alloc l = record {
  sound : IsSound l.edges l.vars l.search;
  ends : AllEnd l.edges l.search.reasons.items;
}

-- the values only fall, and not below a limit
abbrev pub decreases-loop-alloc : goal.decreases-loop-alloc
decreases-loop-alloc l = height l.search.values.items
