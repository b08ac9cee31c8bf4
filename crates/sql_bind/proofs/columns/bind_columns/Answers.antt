use Rattle.std.proofs.Common.{[], Ok, sym, ap, ◌∙◌}
use Rattle.sql_bind.specs.Columns.{rules_of, bind_columns}
use Rattle.sql_bind.specs.inner.Passes.{column_step}
use Rattle.sql_bind.proofs.Loops.{goes_on, stops, ends}
use Rattle.sql_bind.proofs.Passes.{column_steps}
use Rattle.sql_bind.proofs.columns.bind_columns.Goals as goal

pub returns-in_err-columns : goal.returns-in_err-columns
returns-in_err-columns c =
    let all = rules_of c.args.elements.now in
    stops (bind_columns all) (column_step all) (column_steps all) (bind_columns all [] c.args.elements.now) c.loop-element.columns c.args.elements.now c.loop-element.element-index c.loop-element.invariant
    c.element-item.result c.loop-element-test.true c.element-item.is c.in_err-columns.field-0.0 c.from_residual.result c.in_err-columns.ensures c.from_residual.ensures.1

pub loop-element-preserved : goal.loop-element-preserved
loop-element-preserved c =
    let all = rules_of c.args.elements.now in
    goes_on (bind_columns all) (column_step all) (column_steps all) (bind_columns all [] c.args.elements.now) c.loop-element.columns c.args.elements.now c.loop-element.element-index c.loop-element.invariant
    c.element-item.result c.loop-element-test.true c.element-item.is c.in_ok-columns.columns c.in_ok-columns.ensures

pub returns : goal.returns
unfolding bind_columns
returns c =
    let all = rules_of c.args.elements.now in
    ends (bind_columns all) (column_step all) (column_steps all) (bind_columns all [] c.args.elements.now) c.loop-element.columns c.args.elements.now c.loop-element.element-index c.loop-element.invariant c.loop-element-test.false
    ∙ ap Ok (sym c.into_items.ensures)
