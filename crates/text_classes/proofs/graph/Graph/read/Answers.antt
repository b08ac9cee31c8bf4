use Rattle.std.proofs.Common.{◌≡◌, ◌+◌, ◌∙◌, sym, ap, subst, length, arith, List}
use Rattle.std.proofs.lemmas.List.{length_push}
use Rattle.text_classes.specs.declared.graph.Link.{Link}
use Rattle.text_classes.specs.Paths.{fact_at}
use Rattle.text_classes.specs.inner.Nodes.{AreWithin, IsLink, link_at}
use Rattle.text_classes.proofs.Reading.{read_within, read_sides, distinct, fact_read}
use Rattle.text_classes.proofs.graph.Graph.read.Goals as goal

pub loop-fact-preserved : goal.loop-fact-preserved
loop-fact-preserved c =
    let inv = c.loop-fact.invariant in
    let texts = c.node-in-loop-fact.new.self.texts.items in
    let fact = fact_read c.args.facts.now c.loop-fact.fact-index c.fact-item.result c.loop-fact-test.true c.fact-item.is in
    let within = read_within c.args.vars c.args.facts.now c.loop-fact.constants.texts.items c.node.new.self.texts.items texts c.loop-fact.links.items c.loop-fact.fact-index c.in_ok-left.left c.in_ok-right.right c.fact-item.result
    c.in_ok-left.ensures.longer c.in_ok-right.ensures.longer c.in_ok-left.ensures.within c.in_ok-right.ensures.within c.in_ok-left.ensures.end c.in_ok-right.ensures.end fact inv.count inv.within in
    let sides = read_sides c.args.vars c.args.facts.now c.loop-fact.constants.texts.items c.node.new.self.texts.items texts c.loop-fact.links.items c.loop-fact.fact-index c.in_ok-left.left c.in_ok-right.right c.fact-item.result
    c.in_ok-left.ensures.longer c.in_ok-right.ensures.longer c.in_ok-left.ensures.within c.in_ok-right.ensures.within c.in_ok-left.ensures.end c.in_ok-right.ensures.end fact inv.count inv.within inv.sides in
    record {
      kept = c.in_ok-right.ensures.kept;
      few = (let a = c.in_ok-left.ensures.longer.most in let b = c.in_ok-right.ensures.longer.most in let f = inv.few in omega arith);
      count = ap length c.in_ok-push.ensures.items ∙ (let size = length_push c.loop-fact.links.items (let l : Link = record { left = c.in_ok-left.left; right = c.in_ok-right.right; equal = c.fact-item.result.equal } in l) in let n = inv.count in omega arith);
      within = subst (AreWithin (c.args.vars + length texts)) (sym c.in_ok-push.ensures.items) within;
      sides = λ n h. subst (λ (ls : List Link). IsLink c.args.vars texts (fact_at c.args.facts.now n) (link_at ls n)) (sym c.in_ok-push.ensures.items) (sides n h);
    }

pub returns : goal.returns
returns c =
    let inv = c.loop-fact.invariant in
    let end : c.loop-fact.fact-index ≡ length c.args.facts.now = (let f = c.loop-fact-test.false in omega arith) in
    record {
      count = inv.count ∙ end;
      sides = λ n h. inv.sides n (omega arith);
      within = inv.within;
      distinct = distinct c.loop-fact.constants.places c.loop-fact.constants.texts.items inv.kept;
      few = (let f = inv.few in omega arith);
    }
