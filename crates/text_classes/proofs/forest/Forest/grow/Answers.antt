use Rattle.std.proofs.Common.{◌<◌, ◌+◌, length, subst, sym, arith}
use Rattle.text_classes.specs.declared.forest.Forest.{Forest}
use Rattle.text_classes.specs.inner.Forest.{IsBetween}
use Rattle.text_classes.proofs.Meeting.{some_read}
use Rattle.text_classes.proofs.Spreading.{passed}
use Rattle.text_classes.proofs.forest.Forest.grow.Goals as goal
use Rattle.text_classes.proofs.forest.Forest.grow.Goals.{then-is_none+in_ok-fill, else-is_none}

pub loop-root-preserved : goal.loop-root-preserved
loop-root-preserved c = elim c.if-is_none.branch [
  | then-is_none+in_ok-fill w ↦ subst (λ (s : Forest). IsBetween (length c.args.ways.now) c.args.links.now (c.loop-root.root + 1) s) (sym w.forest-is) w.in_ok-fill.ensures
  | else-is_none w ↦
      let count = c.loop-root.invariant.forest.count in
      let listed : c.loop-root.root < length c.loop-root.forest.places.items = omega arith in
      let placed = some_read c.loop-root.forest.places.items c.loop-root.root c.index.result.now listed c.index.ensures w.if-is_none.ensures in
      subst (λ (s : Forest). IsBetween (length c.args.ways.now) c.args.links.now (c.loop-root.root + 1) s) (sym w.forest-is)
      (passed (length c.args.ways.now) c.args.links.now c.loop-root.root c.loop-root.forest c.loop-root.invariant placed)
]
