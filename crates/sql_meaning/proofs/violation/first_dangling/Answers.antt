use Rattle.std.proofs.Common.{◌∙◌, sym, ◌<◌, length, arith}
use Rattle.lint_core.specs.Database.{rows_of}
use Rattle.lint_core.specs.declared.database.Violation.TheVariants.{Dangling}
use Rattle.sql_meaning.specs.Violations.{refers_to_nothing}
use Rattle.sql_meaning.proofs.ViolationsFound.{violation_found}
use Rattle.sql_meaning.proofs.violation.first_dangling.Goals as goal

pub returns-then-refers_to_nothing : goal.returns-then-refers_to_nothing
returns-then-refers_to_nothing c =
    let db = c.args.database.now in
    let low : c.loop-row.row < length (rows_of db c.args.table) = omega arith in
    sym (violation_found (refers_to_nothing db c.args.table c.args.key.now)
    (λ row. Dangling c.args.table c.args.number row) c.loop-row.row (length (rows_of db c.args.table)) c.loop-row.invariant
    (sym c.refers_to_nothing.ensures ∙ c.if-refers_to_nothing.true) low)
