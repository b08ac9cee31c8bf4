use Rattle.std.proofs.Common.{◌≡◌, ◌++◌, drop}
use Rattle.ground_theory.specs.Assignments.{domains_at}
use Rattle.ground_theory.specs.inner.Sums.{told}
use Rattle.ground_theory.specs.inner.Filling.{cell_of_column}
use Rattle.ground_theory.proofs.assignment.row.Given as goal

abbrev pub invariant-loop-column : goal.invariant-loop-column
invariant-loop-column l =
    l.cells.items ++ told (cell_of_column l.solution l.row) l.column (drop l.column (domains_at l.frame l.row))
    ≡ told (cell_of_column l.solution l.row) 0 (domains_at l.frame l.row)
