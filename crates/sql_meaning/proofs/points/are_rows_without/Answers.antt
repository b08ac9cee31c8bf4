use Rattle.std.proofs.Common.{◌≡◌, take, drop, ◌+◌}
use Rattle.lint_core.specs.Points.{are_rows}
use Rattle.sql_meaning.proofs.Places.{rows_without, not_first, as_second}
use Rattle.sql_meaning.proofs.points.are_rows_without.Goals as goal

pub returns-then-not-are_rows : goal.returns-then-not-are_rows
returns-then-not-are_rows c =
    let first : c.are_rows.result ≡ are_rows c.args.database.now (take c.args.entry c.args.tables.now) (take c.args.entry c.args.rows.now) = rw (← c.front.ensures, ← c.front-2.ensures) c.are_rows.ensures in
    not_first _ _ _ c.are_rows.result (rows_without c.args.database.now c.args.entry c.args.tables.now c.args.rows.now) first c.if-not-are_rows.true

pub returns : goal.returns
returns c =
    let first : c.are_rows.result ≡ are_rows c.args.database.now (take c.args.entry c.args.tables.now) (take c.args.entry c.args.rows.now) = rw (← c.front.ensures, ← c.front-2.ensures) c.are_rows.ensures in
    let second : c.are_rows-2.result ≡ are_rows c.args.database.now (drop (c.args.entry + 1) c.args.tables.now) (drop c.args.entry c.args.rows.now) = rw (← c.behind.ensures, ← c.behind-2.ensures) c.are_rows-2.ensures in
    as_second _ _ _ c.are_rows.result c.are_rows-2.result (rows_without c.args.database.now c.args.entry c.args.tables.now c.args.rows.now) first c.if-not-are_rows.false second
