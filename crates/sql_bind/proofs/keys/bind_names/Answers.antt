use Rattle.std.proofs.Common.{[]}
use Rattle.sql_bind.specs.Keys.{bind_names}
use Rattle.sql_bind.specs.inner.Passes.{name_step}
use Rattle.sql_bind.proofs.Loops.{goes_on, stops, ends}
use Rattle.sql_bind.proofs.Passes.{name_steps, name_added, name_refused}
use Rattle.sql_bind.proofs.keys.bind_names.Goals as goal

pub returns-in_err-place : goal.returns-in_err-place
returns-in_err-place c =
    let columns = c.args.columns.now in
    stops (bind_names columns) (name_step columns) (name_steps columns) (bind_names columns [] c.args.names.now) c.loop-name.places c.args.names.now c.loop-name.name-index c.loop-name.invariant
    c.name-item.result c.loop-name-test.true c.name-item.is c.in_err-place.field-0.0 c.from_residual.result
    (name_refused columns c.loop-name.places c.as_slice.result.now c.name-item.result c.in_err-place.field-0.0 c.as_slice.ensures c.in_err-place.ensures) c.from_residual.ensures.1

pub loop-name-preserved : goal.loop-name-preserved
loop-name-preserved c =
    let columns = c.args.columns.now in
    goes_on (bind_names columns) (name_step columns) (name_steps columns) (bind_names columns [] c.args.names.now) c.loop-name.places c.args.names.now c.loop-name.name-index c.loop-name.invariant
    c.name-item.result c.loop-name-test.true c.name-item.is c.push.new.self
    (name_added columns c.loop-name.places c.as_slice.result.now c.push.new.self c.name-item.result c.in_ok-place.place c.as_slice.ensures c.in_ok-place.ensures c.in_ok-push.ensures.ok)

pub returns : goal.returns
unfolding bind_names
returns c =
    let columns = c.args.columns.now in
    ends (bind_names columns) (name_step columns) (name_steps columns) (bind_names columns [] c.args.names.now) c.loop-name.places c.args.names.now c.loop-name.name-index c.loop-name.invariant c.loop-name-test.false
