use Rattle.std.proofs.Common.{◌∙◌, sym, ap, ◌<◌, not, length, arith}
use Rattle.lint_core.specs.Database.{rows_of}
use Rattle.lint_core.specs.Domain.{is_in_domain}
use Rattle.lint_core.specs.Meets.{value_in}
use Rattle.lint_core.specs.declared.database.Violation.TheVariants.{Domain}
use Rattle.sql_meaning.specs.Violations.{place}
use Rattle.sql_meaning.proofs.ViolationsFound.{violation_found}
use Rattle.sql_meaning.proofs.violation.first_outside.Goals as goal

pub returns-then-not-is_in_domain_at : goal.returns-then-not-is_in_domain_at
returns-then-not-is_in_domain_at c =
    let db = c.args.database.now in
    let low : c.loop-row.row < length (rows_of db c.args.table) = omega arith in
    sym (violation_found (λ row. not (is_in_domain c.args.column.now.domain (value_in db (place db c.args.table row) c.args.number)))
    (λ row. Domain c.args.table row c.args.number) c.loop-row.row (length (rows_of db c.args.table)) c.loop-row.invariant
    (ap not (sym c.is_in_domain_at.ensures ∙ c.if-not-is_in_domain_at.true)) low)
