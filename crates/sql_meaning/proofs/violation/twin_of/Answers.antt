use Rattle.std.proofs.Common.{◌∙◌, sym, ◌<◌, length, arith}
use Rattle.lint_core.specs.Database.{rows_of}
use Rattle.sql_meaning.specs.Violations.{is_twin}
use Rattle.sql_meaning.proofs.ViolationsFound.{row_found}
use Rattle.sql_meaning.proofs.violation.twin_of.Goals as goal

pub returns-then-is_twin : goal.returns-then-is_twin
returns-then-is_twin c =
    let db = c.args.database.now in
    let low : c.loop-other.other < length (rows_of db c.args.table) = omega arith in
    sym (row_found (is_twin db c.args.table c.args.key.now c.args.row) c.loop-other.other (length (rows_of db c.args.table)) c.loop-other.invariant
    (sym c.is_twin.ensures ∙ c.if-is_twin.true) low)
