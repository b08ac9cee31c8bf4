use Rattle.std.proofs.Common.{◌≡◌, ◌++◌, drop}
use Rattle.ground_theory.specs.inner.Sums.{told}
use Rattle.ground_theory.specs.inner.Filling.{class_cells}
use Rattle.ground_theory.proofs.assignment.assignment.Given as goal

abbrev pub invariant-loop-class : goal.invariant-loop-class
invariant-loop-class l = l.cells.items ++ told (class_cells l.frame l.solution) l.class-index (drop l.class-index l.class-items) ≡ told (class_cells l.frame l.solution) 0 l.class-items
