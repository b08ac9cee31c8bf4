use Rattle.error_reductions.proofs.Variables.{another_pair}
use Rattle.error_reductions.proofs.joined.some_other.Goals as goal

pub loop-number-preserved : goal.loop-number-preserved
loop-number-preserved c = another_pair c.args.first c.args.second c.loop-number.number c.loop-number.ways c.push.new.self c.loop-number.invariant c.in_ok-push.ensures.ok
