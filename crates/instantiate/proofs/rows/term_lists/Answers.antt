use Rattle.instantiate.proofs.TermLists.{lists_more}
use Rattle.instantiate.proofs.rows.term_lists.Goals as goal

pub loop-table-preserved : goal.loop-table-preserved
loop-table-preserved c =
    lists_more c.args.terms.now c.args.tables.now c.loop-table.table-index c.in_ok-rows.rows c.as_slice-in-loop-table.result.now c.loop-table.lists c.as_slice.result.now c.in_ok-lists.lists
    c.loop-table-test.true c.in_ok-rows.ensures c.as_slice-in-loop-table.ensures c.as_slice.ensures c.loop-table.invariant c.in_ok-lists.ensures
