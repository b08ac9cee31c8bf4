use Rattle.std.proofs.Common.{◌∙◌, sym, ap, subst, ℕ, length, List}
use Rattle.text_classes.specs.inner.Nodes.{IsLinkStep, link_at, LeadsIn}
use Rattle.text_classes.specs.inner.Forest.{IsPlaced, class_in}
use Rattle.text_classes.proofs.Climbing.{climbed, leads_push}
use Rattle.text_classes.proofs.forest.Forest.climb.Goals as goal

pub place-place-requires-in-Some : goal.place-place-requires-in-Some
place-place-requires-in-Some c =
    let up = climbed (length c.args.self.now.places.items) c.args.links.now c.args.self.now c.requires.forest c.loop-number.at c.loop-number.place c.in-Some.number c.index.result.now c.loop-number.invariant.place_is c.index.ensures c.in-Some.is in
    subst (IsPlaced c.args.self.now.places.items) (sym c.other-at.ensures) (up.earlier, up.is)

pub loop-number-preserved : goal.loop-number-preserved
loop-number-preserved c =
    let inv = c.loop-number.invariant in
    let up = climbed (length c.args.self.now.places.items) c.args.links.now c.args.self.now c.requires.forest c.loop-number.at c.loop-number.place c.in-Some.number c.index.result.now inv.place_is c.index.ensures c.in-Some.is in
    let step = subst (λ (v : ℕ). IsLinkStep (link_at c.args.links.now c.in-Some.number) c.loop-number.at v) (sym c.other-at.ensures) up.step in
    record {
      place_is = c.place-place-in-Some.ensures;
      way = subst (λ (ns : List ℕ). LeadsIn c.args.links.now c.args.node ns c.other-at.result) (sym c.in_ok-push.ensures.items) (leads_push c.args.links.now c.args.node c.loop-number.chain.items c.loop-number.at c.in-Some.number c.other-at.result inv.way up.listed step);
      same = inv.same ∙ up.same ∙ ap (class_in c.args.self.now) (sym c.other-at.ensures);
    }
