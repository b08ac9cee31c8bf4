use Rattle.std.proofs.Common.{◌≡◌, ◌++◌, drop}
use Rattle.ground_theory.specs.inner.Sums.{told, bound_stated}
use Rattle.ground_theory.proofs.numbers.bound_edges.Given as goal

abbrev pub invariant-loop-bound : goal.invariant-loop-bound
invariant-loop-bound l = l.list.items ++ told (bound_stated l.numbering.places.items) l.bound-index (drop l.bound-index l.bounds) ≡ told (bound_stated l.numbering.places.items) 0 l.bounds
