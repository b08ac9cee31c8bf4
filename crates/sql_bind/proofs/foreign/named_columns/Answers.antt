use Rattle.std.proofs.Common.{sym, ◌∙◌}
use Rattle.sql_bind.specs.Schemas.{named_columns}
use Rattle.sql_bind.proofs.Targets.{named_none, named_next, named_end}
use Rattle.sql_bind.proofs.foreign.named_columns.Goals as goal

pub returns-in_default : goal.returns-in_default
returns-in_default c =
    named_none c.args.columns.now c.loop-name.places c.args.names.now (named_columns c.args.columns.now c.args.names.now) c.loop-name.name-index c.loop-name.invariant
    c.name-item.result c.loop-name-test.true c.name-item.is (sym c.column_place.ensures ∙ c.in_default.is)

pub loop-name-preserved : goal.loop-name-preserved
loop-name-preserved c =
    named_next c.args.columns.now c.loop-name.places c.args.names.now (named_columns c.args.columns.now c.args.names.now) c.loop-name.name-index c.loop-name.invariant
    c.name-item.result c.loop-name-test.true c.name-item.is c.in-Some.place c.in_ok-number.number c.push.new.self (sym c.column_place.ensures ∙ c.in-Some.is) c.in_ok-number.ensures c.in_ok-push.ensures.ok

pub returns : goal.returns
returns c =
    named_end c.args.columns.now c.loop-name.places c.args.names.now (named_columns c.args.columns.now c.args.names.now) c.loop-name.name-index c.loop-name.invariant c.loop-name-test.false
