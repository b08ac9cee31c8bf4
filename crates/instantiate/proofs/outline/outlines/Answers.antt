use Rattle.instantiate.proofs.Outlining.{outline_more, closed_more}
use Rattle.instantiate.proofs.outline.outlines.Goals as goal

pub loop-sentence-preserved : goal.loop-sentence-preserved
loop-sentence-preserved c =
    let sentences = c.args.sentences.now in
    let i = c.loop-sentence.sentence-index in
    let g = c.sentence-item.result in
    record {
      nodes = outline_more c.loop-sentence.all c.push.new.self sentences i g c.in_ok-nodes_of.field-0 c.loop-sentence-test.true c.sentence-item.is c.in_ok-push.ensures.ok c.in_ok-nodes_of.ensures.nodes
          c.loop-sentence.invariant.nodes;
      closed = closed_more sentences i g c.loop-sentence-test.true c.sentence-item.is c.in_ok-nodes_of.ensures.closed c.loop-sentence.invariant.closed;
    }
