use Rattle.std.proofs.Common.{◌≡◌, drop, max}
use Rattle.instantiate.specs.Keys.{stage_of}
use Rattle.instantiate.proofs.spots.stage_of.Given as goal

abbrev pub invariant-loop-table : goal.invariant-loop-table
invariant-loop-table l = stage_of l.order l.tables ≡ max l.stage (stage_of l.order (drop l.table-index l.tables))
