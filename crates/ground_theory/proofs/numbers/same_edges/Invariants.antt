use Rattle.std.proofs.Common.{◌≡◌, ◌++◌, drop}
use Rattle.ground_theory.specs.inner.Sums.{told, join_stated}
use Rattle.ground_theory.proofs.numbers.same_edges.Given as goal

abbrev pub invariant-loop-join : goal.invariant-loop-join
invariant-loop-join l = l.list.items ++ told (join_stated l.frame l.numbering.places.items) l.join-index (drop l.join-index l.joins) ≡ told (join_stated l.frame l.numbering.places.items) 0 l.joins
