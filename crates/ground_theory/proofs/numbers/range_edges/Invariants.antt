use Rattle.std.proofs.Common.{◌≡◌, ◌++◌, drop}
use Rattle.ground_theory.specs.inner.Sums.{told, range_of}
use Rattle.ground_theory.proofs.numbers.range_edges.Given as goal

abbrev pub invariant-loop-number : goal.invariant-loop-number
invariant-loop-number l = l.list.items ++ told (range_of l.frame l.labels) l.number (drop l.number l.cells) ≡ told (range_of l.frame l.labels) 0 l.cells
