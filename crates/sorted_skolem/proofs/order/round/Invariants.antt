use Rattle.std.proofs.Common.{◌≡◌, true}
use Rattle.std.specs.List.{IsDistinct}
use Rattle.std.specs.Prelude.{nat_eq}
use Rattle.sorted_skolem.specs.inner.Waiting.{has, lacking, Backs}
use Rattle.sorted_skolem.proofs.order.round.Given as goal

abbrev pub invariant-loop-start : goal.invariant-loop-start
invariant-loop-start l = record {
  waits : has l.waiting l.at ≡ true;
  backs : Backs l.edges l.walk.items l.at;
  simple : IsDistinct nat_eq l.walk.items;
}

-- each turn walks to a table that was not met
abbrev pub decreases-loop-start : goal.decreases-loop-start
decreases-loop-start l = lacking l.waiting l.walk.items
