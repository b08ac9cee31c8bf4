use Rattle.std.proofs.Common.{◌∙◌}
use Rattle.instantiate.proofs.TermLists.{extended_more}
use Rattle.instantiate.proofs.rows.extended.Goals as goal

pub loop-list-preserved : goal.loop-list-preserved
loop-list-preserved c =
    c.in_ok-add_extended.ensures
    ∙ extended_more c.args.rows.now c.args.lists.now c.loop-list.list-index c.list-item.result c.as_slice.result.now c.loop-list.all c.loop-list-test.true c.list-item.is c.as_slice.ensures c.loop-list.invariant
