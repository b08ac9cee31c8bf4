use Rattle.std.proofs.Common.{◌∙◌, sym}
use Rattle.sql_meaning.specs.Violations.{table_violations, first_violation}
use Rattle.sql_meaning.proofs.TableSizes.{Small, small}
use Rattle.sql_meaning.proofs.ViolationsFound.{part_found, part_passed}
use Rattle.sql_meaning.proofs.database_meets.violation_of_tables.Goals as goal

pub violation_of_table-requires-clause-columns : goal.violation_of_table-requires-clause-columns
violation_of_table-requires-clause-columns c =
    let table : Small c.index-tables-number.result = small c.args.tables.now c.requires.schema c.loop-number.number c.index-tables-number.result c.loop-number-test.true c.index-tables-number.is in
    table.columns

pub violation_of_table-requires-clause-keys : goal.violation_of_table-requires-clause-keys
violation_of_table-requires-clause-keys c =
    let table : Small c.index-tables-number.result = small c.args.tables.now c.requires.schema c.loop-number.number c.index-tables-number.result c.loop-number-test.true c.index-tables-number.is in
    table.keys

pub violation_of_table-requires-clause-checks : goal.violation_of_table-requires-clause-checks
violation_of_table-requires-clause-checks c =
    let table : Small c.index-tables-number.result = small c.args.tables.now c.requires.schema c.loop-number.number c.index-tables-number.result c.loop-number-test.true c.index-tables-number.is in
    table.checks

pub violation_of_table-requires-clause-foreign : goal.violation_of_table-requires-clause-foreign
violation_of_table-requires-clause-foreign c =
    let table : Small c.index-tables-number.result = small c.args.tables.now c.requires.schema c.loop-number.number c.index-tables-number.result c.loop-number-test.true c.index-tables-number.is in
    table.foreign

pub returns-in-Some : goal.returns-in-Some
returns-in-Some c =
    part_found (table_violations c.args.database.now) c.args.tables.now (first_violation c.args.tables.now c.args.database.now) c.loop-number.number c.index-tables-number.result c.in-Some.found
    c.loop-number.invariant c.loop-number-test.true c.index-tables-number.is (sym c.in-Some.is ∙ c.in_ok-found.ensures)

pub loop-number-preserved : goal.loop-number-preserved
loop-number-preserved c =
    part_passed (table_violations c.args.database.now) c.args.tables.now (first_violation c.args.tables.now c.args.database.now) c.loop-number.number c.index-tables-number.result
    c.loop-number.invariant c.loop-number-test.true c.index-tables-number.is (sym c.in_default.is ∙ c.in_ok-found.ensures)
