use Rattle.std.proofs.Common.{ap, length}
use Rattle.lint_engine.proofs.Passed.{passed_clauses}
use Rattle.lint_engine.proofs.problem.grounded.Goals as goal

pub returns-in-Err-ManyNodes-clause-stop : goal.returns-in-Err-ManyNodes-clause-stop
returns-in-Err-ManyNodes-clause-stop c =
    let ss = c.args.sentences in
    let order = c.args.order.tables in
    let many = rw c.in-Err-ManyNodes.field-0-is at c.in-Err-ManyNodes.ensures.many in
    passed_clauses ss order (c.orders_exclude_cycles.ensures ss order c.requires.ready.ordered) c.requires.ready.ordered c.args.rows.terms (length c.as_slice.result.now) c.in-Err-ManyNodes.nodes
    c.requires.ready.few_nodes c.requires.ready.terms_are c.requires.ready.few_rows (ap length c.as_slice.ensures) many.0 many.1
