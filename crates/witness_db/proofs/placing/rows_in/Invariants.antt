use Rattle.std.proofs.Common.{◌≡◌, map}
use Rattle.std.specs.List.{filter}
use Rattle.lint_core.specs.Database.{below}
use Rattle.witness_db.specs.inner.Placing.{leads, row_of}
use Rattle.witness_db.proofs.placing.rows_in.Given as goal

abbrev pub invariant-loop-row : goal.invariant-loop-row
invariant-loop-row l = l.rows ≡ map (row_of l.assignment) (filter (leads l.tables l.firsts l.table) (below l.row))
