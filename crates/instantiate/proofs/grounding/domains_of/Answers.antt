use Rattle.instantiate.proofs.Readiness.{domains_more}
use Rattle.instantiate.proofs.grounding.domains_of.Goals as goal

pub loop-table-preserved : goal.loop-table-preserved
loop-table-preserved c =
    domains_more c.args.tables.now c.loop-table.table-index c.table-item.result c.loop-table.domains c.push.new.self c.in_ok-domains_of_table.field-0 c.loop-table-test.true c.table-item.is c.loop-table.invariant
    c.in_ok-push.ensures.ok c.in_ok-domains_of_table.ensures
