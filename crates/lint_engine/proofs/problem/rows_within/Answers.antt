use Rattle.lint_engine.proofs.Passed.{passed_rows}
use Rattle.lint_engine.proofs.problem.rows_within.Goals as goal

pub returns-in-Err-ManyRows-clause-stop : goal.returns-in-Err-ManyRows-clause-stop
returns-in-Err-ManyRows-clause-stop c =
    let ss = c.args.sentences.now in
    let order = c.args.order.now.tables in
    passed_rows ss order (c.orders_exclude_cycles.ensures ss order c.requires.order) c.requires.order c.in-Err-ManyRows.count c.requires.nodes (rw c.in-Err-ManyRows.field-0-is at c.in-Err-ManyRows.ensures.many)
