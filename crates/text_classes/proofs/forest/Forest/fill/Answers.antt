use Rattle.std.proofs.Common.{◌≡◌, ◌<◌, ◌+◌, length, arith, subst, sym, refl, ℕ}
use Rattle.text_classes.specs.declared.forest.Forest.{Forest}
use Rattle.text_classes.specs.inner.Forest.{IsFilling}
use Rattle.text_classes.proofs.Spreading.{started, started_below, started_few, started_early}
use Rattle.text_classes.proofs.forest.Forest.fill.Goals as goal

pub loop-place-init : goal.loop-place-init
loop-place-init c =
    let t : Forest = record { order = c.visit.new.self.order; places = c.visit.new.self.places; classes = c.args.self.now.classes + 1 } in
    let place : c.len-place.result ≡ length c.args.self.now.order.items = omega arith in
    record {
      filling = subst (λ (p : ℕ). IsFilling (length c.args.ways.now) c.args.links.now p c.args.self.now.classes t) (sym place)
          (started (length c.args.ways.now) c.args.links.now c.args.root c.args.self.now c.requires.between c.requires.root c.requires.fresh t c.in_ok-visit.ensures.order c.in_ok-visit.ensures.places refl);
      early = (let h = started_early (length c.args.ways.now) c.args.links.now c.args.root c.args.self.now c.requires.between c.requires.root c.requires.fresh t c.in_ok-visit.ensures.order c.in_ok-visit.ensures.places refl in omega arith);
      below = started_below (length c.args.ways.now) c.args.links.now c.args.root c.args.self.now c.requires.between c.requires.root c.requires.fresh t c.in_ok-visit.ensures.order c.in_ok-visit.ensures.places refl;
      few = started_few (length c.args.ways.now) c.args.links.now c.args.root c.args.self.now c.requires.between c.requires.root c.requires.fresh t c.in_ok-visit.ensures.order c.in_ok-visit.ensures.places refl;
    }

pub loop-place-preserved : goal.loop-place-preserved
loop-place-preserved c =
    let inv = c.loop-place.invariant in
    let listed : c.loop-place.place < length c.loop-place.self.order.items = omega arith in
    let more = c.in_ok-spread.ensures.extends in
    record {
      filling = subst (λ (k : ℕ). IsFilling (length c.args.ways.now) c.args.links.now (c.loop-place.place + 1) k c.spread.new.self) (inv.filling.last c.loop-place.place (omega arith) listed) c.in_ok-spread.ensures.filling;
      early = (let h = more.longer in omega arith);
      below = λ node h. (let was = inv.below node h in (was.0, more.placed node was.0 was.1));
      few = (let same = more.classes in let was = inv.few in omega arith);
    }
