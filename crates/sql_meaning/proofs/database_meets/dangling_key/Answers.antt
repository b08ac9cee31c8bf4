use Rattle.std.specs.Prelude.{slice_get}
use Rattle.sql_meaning.specs.Violations.{numbered, dangling}
use Rattle.sql_meaning.proofs.ViolationsFound.{part_found, part_passed}
use Rattle.sql_meaning.proofs.database_meets.dangling_key.Goals as goal

pub returns-in-Some : goal.returns-in-Some
returns-in-Some c =
    let found = dangling c.args.database.now c.args.table in
    part_found found c.args.keys.now (slice_get (numbered found 0 c.args.keys.now) 0) c.loop-number.number c.index-keys-number.result c.in-Some.found
    c.loop-number.invariant c.loop-number-test.true c.index-keys-number.is (cc)

pub loop-number-preserved : goal.loop-number-preserved
loop-number-preserved c =
    let found = dangling c.args.database.now c.args.table in
    part_passed found c.args.keys.now (slice_get (numbered found 0 c.args.keys.now) 0) c.loop-number.number c.index-keys-number.result
    c.loop-number.invariant c.loop-number-test.true c.index-keys-number.is (cc)
