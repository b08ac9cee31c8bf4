use Rattle.ground_theory.specs.inner.Numbering.{IsClassAdded}
use Rattle.ground_theory.proofs.numbering.Numbering.add_class.Given as goal

abbrev pub invariant-loop-other : goal.invariant-loop-other
invariant-loop-other l = IsClassAdded l.labels l.row l.column l.other l.fn.self.places.items l.fn.self.cells.items l.self.places.items l.self.cells.items
