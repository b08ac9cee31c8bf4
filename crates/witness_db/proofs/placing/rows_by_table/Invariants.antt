use Rattle.std.proofs.Common.{◌≡◌, map}
use Rattle.lint_core.specs.Database.{below}
use Rattle.witness_db.specs.inner.Placing.{rows_in}
use Rattle.witness_db.proofs.placing.rows_by_table.Given as goal

abbrev pub invariant-loop-table : goal.invariant-loop-table
invariant-loop-table l = l.rows ≡ map (rows_in l.tables l.firsts l.assignment) (below l.table)
