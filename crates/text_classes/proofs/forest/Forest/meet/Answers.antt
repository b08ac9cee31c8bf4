use Rattle.text_classes.proofs.Meeting.{meets_filled, meets_extended, meets_new}
use Rattle.text_classes.proofs.forest.Forest.meet.Goals as goal

pub returns-in_ok-visit-clause-filling : goal.returns-in_ok-visit-clause-filling
returns-in_ok-visit-clause-filling c =
    meets_filled c.args.links.now c.args.place c.args.number c.args.self.now c.requires.place c.requires.filling c.requires.way c.requires.within
    c.index-from.result.now c.index-from.ensures c.other-next.result c.other-next.ensures c.index.result.now c.index.ensures c.if-is_none.ensures
    c.visit.new.self c.in_ok-visit.ensures.order c.in_ok-visit.ensures.places c.in_ok-visit.ensures.classes

pub returns-in_ok-visit-clause-met : goal.returns-in_ok-visit-clause-met
returns-in_ok-visit-clause-met c =
    meets_new c.args.links.now c.args.place c.args.number c.args.self.now c.requires.place c.requires.filling c.requires.way c.requires.within
    c.index-from.result.now c.index-from.ensures c.other-next.result c.other-next.ensures c.index.result.now c.index.ensures c.if-is_none.ensures
    c.visit.new.self c.in_ok-visit.ensures.order c.in_ok-visit.ensures.places c.in_ok-visit.ensures.classes

pub returns-in_ok-visit-clause-extends : goal.returns-in_ok-visit-clause-extends
returns-in_ok-visit-clause-extends c =
    meets_extended c.args.links.now c.args.place c.args.number c.args.self.now c.requires.place c.requires.filling c.requires.way c.requires.within
    c.index-from.result.now c.index-from.ensures c.other-next.result c.other-next.ensures c.index.result.now c.index.ensures c.if-is_none.ensures
    c.visit.new.self c.in_ok-visit.ensures.order c.in_ok-visit.ensures.places c.in_ok-visit.ensures.classes
