use Rattle.std.proofs.Common.{sym, ◌<◌, length, arith}
use Rattle.lint_core.specs.Database.{rows_of}
use Rattle.lint_core.specs.Meets.{agree}
use Rattle.sql_meaning.specs.Violations.{place}
use Rattle.sql_meaning.proofs.ViolationsFound.{some_found}
use Rattle.sql_meaning.proofs.violation.some_target.Goals as goal

pub returns-then-agree : goal.returns-then-agree
returns-then-agree c =
    let db = c.args.database.now in
    let key = c.args.key.now in
    let low : c.loop-row.row < length (rows_of db key.target) = omega arith in
    sym (some_found (place db key.target) (λ target. agree db (place db c.args.spot.table c.args.spot.row) key.columns target key.target_columns)
    c.loop-row.row (length (rows_of db key.target)) (cc) low)
