use Rattle.std.proofs.lemmas.Result.{err_from_is_err_and}
use Rattle.sql_parse.proofs.Statements.{continues_end, stops_at_next}
use Rattle.sql_parse.proofs.schemas.statements.Goals as goal

pub returns-in_err-table : goal.returns-in_err-table
returns-in_err-table c =
    let p = err_from_is_err_and c.from_residual-in_err-table.result c.from_residual-in_err-table.ensures.1 in
    rw (p.1, p.2)
    (stops_at_next c.in_err-table.field-0.0 c.args.depth c.args.tokens.now c.loop-after.tables c.loop-after.rest.now c.in-Some.after.now c.in-Some.field-0-0.now
    c.in-Some.ensures.0 c.in-Some.ensures.1 c.in_err-table.ensures c.loop-after.invariant)

pub returns : goal.returns
returns c = continues_end c.args.depth c.args.tokens.now c.loop-after.tables c.loop-after.rest.now c.in_default.ensures c.loop-after.invariant
