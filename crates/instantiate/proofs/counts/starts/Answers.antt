use Rattle.instantiate.proofs.Counting.{starts_more, total_more}
use Rattle.instantiate.proofs.counts.starts.Goals as goal

pub loop-stage-preserved : goal.loop-stage-preserved
loop-stage-preserved c =
    let inv = c.loop-stage.invariant in
    record {
      starts = starts_more c.args.all.now c.loop-stage.stage c.loop-stage.total c.loop-stage.starts c.push.new.self c.in_ok-push.ensures.ok inv.starts inv.total;
      total = total_more c.args.all.now c.loop-stage.stage c.loop-stage.total c.size_of_stage.result c.saturating_add-total.result inv.total c.size_of_stage.ensures c.saturating_add-total.ensures;
    }
