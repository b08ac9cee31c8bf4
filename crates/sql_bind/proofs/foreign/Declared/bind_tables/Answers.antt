use Rattle.std.proofs.Common.{◌≡◌, length, sym, ap, ◌∙◌, arith}
use Rattle.std.specs.Prelude.{slice_get}
use Rattle.sql_bind.specs.Schemas.{bind_tables}
use Rattle.sql_bind.proofs.Tables.{tables_start, tables_over, tables_short, tables_stop, tables_next}
use Rattle.sql_bind.proofs.foreign.Declared.bind_tables.Goals as goal

pub loop-number-init : goal.loop-number-init
loop-number-init c = tables_start c.args.self.now.outlines.now c.args.self.now.trees.now c.new-tables.result c.new-tables.ensures

pub returns-in_default : goal.returns-in_default
returns-in_default c =
    let outlines = c.args.self.now.outlines.now in
    let trees = c.args.self.now.trees.now in
    let size : length c.tables.result.now ≡ length c.args.self.now.outlines.now = ap length c.tables.ensures in
    tables_short outlines trees c.loop-number.tables c.loop-number.number (bind_tables outlines trees 0 outlines trees) c.loop-number.invariant (omega (arith, c.in_default.ensures.none))

pub returns-in_err-whole : goal.returns-in_err-whole
returns-in_err-whole c =
    let outlines = c.args.self.now.outlines.now in
    let trees = c.args.self.now.trees.now in
    let there = ap (λ tables. slice_get tables c.loop-number.number) (sym c.tables.ensures) ∙ c.in-Some.ensures.some in
    tables_stop outlines trees c.loop-number.tables c.loop-number.number (bind_tables outlines trees 0 outlines trees) c.loop-number.invariant c.tree-item.result c.in-Some.table.now
    c.loop-number-test.true c.tree-item.is there c.in_err-whole.field-0.0 c.from_residual.result c.in_err-whole.ensures c.from_residual.ensures.1

pub loop-number-preserved : goal.loop-number-preserved
loop-number-preserved c =
    let outlines = c.args.self.now.outlines.now in
    let trees = c.args.self.now.trees.now in
    let there = ap (λ tables. slice_get tables c.loop-number.number) (sym c.tables.ensures) ∙ c.in-Some.ensures.some in
    tables_next outlines trees c.loop-number.tables c.loop-number.number (bind_tables outlines trees 0 outlines trees) c.loop-number.invariant c.tree-item.result c.in-Some.table.now
    c.loop-number-test.true c.tree-item.is there c.in_ok-whole.whole c.push.new.self c.in_ok-whole.ensures c.in_ok-push.ensures.ok

pub returns : goal.returns
returns c =
    let outlines = c.args.self.now.outlines.now in
    let trees = c.args.self.now.trees.now in
    tables_over outlines trees c.loop-number.tables c.loop-number.number (bind_tables outlines trees 0 outlines trees) c.loop-number.invariant c.loop-number-test.false
