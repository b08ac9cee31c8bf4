use Rattle.std.proofs.Common.{◌≡◌, take, drop, ◌+◌}
use Rattle.lint_core.specs.Points.{are_same_rows}
use Rattle.sql_meaning.proofs.Places.{same_without, not_first, as_second}
use Rattle.sql_meaning.proofs.points.are_same_without.Goals as goal

pub returns-then-not-are_same_rows : goal.returns-then-not-are_same_rows
returns-then-not-are_same_rows c =
    let first : c.are_same_rows.result ≡ are_same_rows (take c.args.entry c.args.rows.now) (take c.args.entry c.args.others.now) = rw (← c.front.ensures, ← c.front-2.ensures) c.are_same_rows.ensures in
    not_first _ _ _ c.are_same_rows.result (same_without c.args.entry c.args.rows.now c.args.others.now) first c.if-not-are_same_rows.true

pub returns : goal.returns
returns c =
    let first : c.are_same_rows.result ≡ are_same_rows (take c.args.entry c.args.rows.now) (take c.args.entry c.args.others.now) = rw (← c.front.ensures, ← c.front-2.ensures) c.are_same_rows.ensures in
    let second : c.are_same_rows-2.result ≡ are_same_rows (drop (c.args.entry + 1) c.args.rows.now) (drop (c.args.entry + 1) c.args.others.now) = rw (← c.behind.ensures, ← c.behind-2.ensures) c.are_same_rows-2.ensures in
    as_second _ _ _ c.are_same_rows.result c.are_same_rows-2.result (same_without c.args.entry c.args.rows.now c.args.others.now) first c.if-not-are_same_rows.false second
