use Rattle.std.proofs.Common.{◌≡◌, ℕ, refl, subst, length, arith}
use Rattle.ground_theory.specs.inner.Numbering.{IsNumbered}
use Rattle.ground_theory.proofs.Placing.{class_more, none_numbered}
use Rattle.ground_theory.proofs.numbering.number_cells.Goals as goal

pub loop-cell-init : goal.loop-cell-init
loop-cell-init c = none_numbered c.args.labels.now c.args.named.now c.in_ok-nones.field-0.items c.new.result.items c.in_ok-nones.ensures c.new.ensures.items

pub loop-cell-preserved : goal.loop-cell-preserved
loop-cell-preserved c =
    let test = c.loop-cell-test.true in
    class_more c.args.labels.now c.args.named.now c.loop-cell.cell-index c.loop-cell.numbering.places.items c.loop-cell.numbering.cells.items c.loop-cell.invariant test _ refl
    c.add_class.new.self.places.items c.add_class.new.self.cells.items c.in_ok-add_class.ensures

pub returns : goal.returns
returns c =
    let end : c.loop-cell.cell-index ≡ length c.args.named.now = (let f = c.loop-cell-test.false in omega arith) in
    subst (λ (k : ℕ). IsNumbered c.args.labels.now c.args.named.now k c.loop-cell.numbering.places.items c.loop-cell.numbering.cells.items) end c.loop-cell.invariant
