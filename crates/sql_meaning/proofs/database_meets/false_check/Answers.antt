use Rattle.std.proofs.Common.{◌∙◌, sym}
use Rattle.std.specs.Prelude.{slice_get}
use Rattle.sql_meaning.specs.Violations.{numbered, false_checks}
use Rattle.sql_meaning.proofs.ViolationsFound.{part_found, part_passed}
use Rattle.sql_meaning.proofs.database_meets.false_check.Goals as goal

pub returns-in-Some : goal.returns-in-Some
returns-in-Some c =
    let found = false_checks c.args.database.now c.args.table in
    part_found found c.args.checks.now (slice_get (numbered found 0 c.args.checks.now) 0) c.loop-number.number c.index-checks-number.result c.in-Some.found
    c.loop-number.invariant c.loop-number-test.true c.index-checks-number.is (sym c.in-Some.is ∙ c.in_ok-found.ensures)

pub loop-number-preserved : goal.loop-number-preserved
loop-number-preserved c =
    let found = false_checks c.args.database.now c.args.table in
    part_passed found c.args.checks.now (slice_get (numbered found 0 c.args.checks.now) 0) c.loop-number.number c.index-checks-number.result
    c.loop-number.invariant c.loop-number-test.true c.index-checks-number.is (sym c.in_default.is ∙ c.in_ok-found.ensures)
