use Rattle.std.proofs.Common.{◌∙◌, sym, ◌<◌, ◌&&◌, length, arith}
use Rattle.std.proofs.lemmas.Bool.{and_from}
use Rattle.lint_core.specs.Comparison.{is_null}
use Rattle.lint_core.specs.Database.{rows_of}
use Rattle.lint_core.specs.Meets.{value_in}
use Rattle.lint_core.specs.declared.database.Violation.TheVariants.{Null}
use Rattle.sql_meaning.specs.Violations.{place}
use Rattle.sql_meaning.proofs.ViolationsFound.{violation_found}
use Rattle.sql_meaning.proofs.violation.first_null.Goals as goal

pub returns-then-is_null_at : goal.returns-then-is_null_at
returns-then-is_null_at c =
    let db = c.args.database.now in
    let low : c.loop-row.row < length (rows_of db c.args.table) = omega arith in
    sym (violation_found (λ row. c.args.column.now.not_null && is_null (value_in db (place db c.args.table row) c.args.number))
    (λ row. Null c.args.table row c.args.number) c.loop-row.row (length (rows_of db c.args.table)) c.loop-row.invariant
    (and_from c.args.column.now.not_null (is_null (value_in db (place db c.args.table c.loop-row.row) c.args.number)) c.if-column.true (sym c.is_null_at.ensures ∙ c.if-is_null_at.true)) low)
