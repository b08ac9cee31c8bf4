use Rattle.ground_theory.specs.inner.Numbering.{IsNumbered}
use Rattle.ground_theory.proofs.numbering.number_cells.Given as goal

abbrev pub invariant-loop-cell : goal.invariant-loop-cell
invariant-loop-cell l = IsNumbered l.labels l.named l.cell-index l.numbering.places.items l.numbering.cells.items
