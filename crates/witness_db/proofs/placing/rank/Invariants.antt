use Rattle.std.proofs.Common.{◌≡◌, ◌≤◌}
use Rattle.witness_db.specs.inner.Placing.{rank}
use Rattle.witness_db.proofs.placing.rank.Given as goal

abbrev pub invariant-loop-row : goal.invariant-loop-row
invariant-loop-row l = record {
  count : l.count ≡ rank l.tables l.firsts l.table l.row;
  few : l.count ≤ l.row;
}
