use Rattle.std.proofs.Common.{◌≡◌, ◌||◌, length, arith}
use Rattle.std.proofs.lemmas.Grind.{common_steps}
use Rattle.std.proofs.lemmas.Result.{err_from_is_err_and}
use Rattle.lint_core.specs.Database.{rows_of}
use Rattle.lint_core.specs.Question.{table_of}
use Rattle.sql_meaning.proofs.ClauseParts.{rows_end, rows_step, rows_stop}
use Rattle.sql_meaning.proofs.clauses.Main.none_fits.Goals as goal
use Rattle.sql_meaning.proofs.clauses.Main.none_fits.Goals.{then-some, else-some}
use Rattle.sql_meaning.specs.Behind.{behind}

pub returns : goal.returns
returns c =
    let db = c.args.self.now.database.now in
    let query = c.args.self.now.query.now in
    let count : c.row_count-row-end.result ≡ length (rows_of db (table_of db query c.args.entry)) = rw (← c.table_of.ensures) c.row_count-row-end.ensures in
    let same : c.loop-row.row ≡ c.row_count-row-end.result = omega arith in
    rows_end db query c.args.entry c.args.others.now (behind c.args.conds.now) c.row_count-row-end.result c.loop-row.row c.loop-row.some c.loop-row.invariant count same

pub returns-in_err-fits : goal.returns-in_err-fits
returns-in_err-fits c =
    let db = c.args.self.now.database.now in
    let query = c.args.self.now.query.now in
    let count : c.row_count-row-end.result ≡ length (rows_of db (table_of db query c.args.entry)) = rw (← c.table_of.ensures) c.row_count-row-end.ensures in
    let p = err_from_is_err_and c.from_residual.result c.from_residual.ensures.1 in
    rw (p.1, p.2)
    (rows_stop db query c.args.entry c.args.others.now (behind c.args.conds.now) c.row_count-row-end.result c.loop-row.row c.loop-row.some c.loop-row.invariant
    c.in_err-fits.field-0.0 count c.loop-row-test.true c.in_err-fits.ensures)

pub loop-row-preserved : goal.loop-row-preserved
loop-row-preserved c =
    let next : c.if-some.some ≡ c.loop-row.some || c.in_ok-fits.fits = elim c.if-some.branch [ then-some w ↦ grind (arith, common_steps) | else-some w ↦ grind (arith, common_steps) ] in
    rows_step c.args.self.now.database.now c.args.self.now.query.now c.args.entry c.args.others.now (behind c.args.conds.now) c.row_count-row-end.result c.loop-row.row c.loop-row.some c.loop-row.invariant
    c.in_ok-fits.fits c.if-some.some c.loop-row-test.true c.in_ok-fits.ensures next
