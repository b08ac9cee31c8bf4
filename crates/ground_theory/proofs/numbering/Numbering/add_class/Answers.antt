use Rattle.std.proofs.Common.{◌+◌, sym, subst}
use Rattle.ground_theory.specs.declared.numbering.Numbering.{Numbering}
use Rattle.ground_theory.specs.inner.Numbering.{IsClassAdded}
use Rattle.ground_theory.proofs.Placing.{added_more, passed_more}
use Rattle.ground_theory.proofs.numbering.Numbering.add_class.Goals as goal
use Rattle.ground_theory.proofs.numbering.Numbering.add_class.Goals.{then-labels-other+in_ok-add, else-labels-other}

pub loop-other-preserved : goal.loop-other-preserved
loop-other-preserved c =
    let labels = c.args.labels.now in
    let was = c.args.self.now in
    let here = c.loop-other.self in
    let P : Numbering → Type 0 = λ n. IsClassAdded labels c.args.row c.args.column (c.loop-other.other + 1) was.places.items was.cells.items n.places.items n.cells.items in
    elim c.if-labels-other.branch [
      | then-labels-other+in_ok-add w ↦ subst P (sym w.self-is)
          (added_more labels c.args.row c.args.column c.loop-other.other was.places.items was.cells.items here.places.items here.cells.items c.loop-other.invariant w.if-labels-other.true w.add.new.self.places.items w.add.new.self.cells.items w.in_ok-add.ensures)
      | else-labels-other w ↦ subst P (sym w.self-is)
          (passed_more labels c.args.row c.args.column c.loop-other.other was.places.items was.cells.items here.places.items here.cells.items c.loop-other.invariant w.if-labels-other.false)
    ]
