use Rattle.std.proofs.Common.{sym, ap, ◌<◌, length, map, arith}
use Rattle.std.specs.List.{filter}
use Rattle.lint_core.specs.Database.{rows_of, below}
use Rattle.lint_core.specs.declared.database.Violation.TheVariants.{Twice}
use Rattle.sql_meaning.specs.Violations.{at_rows, is_twin}
use Rattle.sql_meaning.proofs.ViolationsFound.{list_found, list_passed, first_map, none_is_empty}
use Rattle.sql_meaning.proofs.violation.first_twice.Goals as goal

pub returns-in-Some : goal.returns-in-Some
returns-in-Some c =
    let db = c.args.database.now in
    let low : c.loop-row.row < length (rows_of db c.args.table) = omega arith in
    let twins = filter (is_twin db c.args.table c.args.key.now c.loop-row.row) (below (length (rows_of db c.args.table))) in
    sym (list_found (λ row. at_rows db c.args.table (is_twin db c.args.table c.args.key.now row) (λ other. Twice c.args.table c.args.number row other))
    c.loop-row.row (length (rows_of db c.args.table)) (Twice c.args.table c.args.number c.loop-row.row c.in-Some.other) c.loop-row.invariant
    (first_map (λ other. Twice c.args.table c.args.number c.loop-row.row other) twins c.in-Some.other (cc)) low)

pub loop-row-preserved : goal.loop-row-preserved
loop-row-preserved c =
    let db = c.args.database.now in
    let twins = filter (is_twin db c.args.table c.args.key.now c.loop-row.row) (below (length (rows_of db c.args.table))) in
    list_passed (λ row. at_rows db c.args.table (is_twin db c.args.table c.args.key.now row) (λ other. Twice c.args.table c.args.number row other))
    c.loop-row.row c.loop-row.invariant (ap (map (λ other. Twice c.args.table c.args.number c.loop-row.row other)) (none_is_empty twins (cc)))
