use Rattle.std.proofs.Common.{◌∙◌, sym, ◌<◌, [], ◌∷◌, length, arith}
use Rattle.lint_core.specs.Condition.{is_false_at}
use Rattle.lint_core.specs.Database.{rows_of}
use Rattle.lint_core.specs.declared.database.Violation.TheVariants.{Check}
use Rattle.sql_meaning.proofs.ViolationsFound.{violation_found}
use Rattle.sql_meaning.proofs.violation.first_false.Goals as goal

pub returns-then-branch : goal.returns-then-branch
returns-then-branch c =
    let db = c.args.database.now in
    let low : c.loop-row.row < length (rows_of db c.args.table) = omega arith in
    sym (violation_found (λ row. is_false_at db c.args.check.now ((c.args.table ∷ []) ∷ []) ((row ∷ []) ∷ []))
    (λ row. Check c.args.table c.args.number row) c.loop-row.row (length (rows_of db c.args.table)) c.loop-row.invariant
    (sym c.in_ok-is_false_at.ensures ∙ c.if-branch.true) low)
