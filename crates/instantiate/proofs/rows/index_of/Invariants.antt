use Rattle.std.proofs.Common.{◌≡◌, ◌≤◌, ◌-◌, ◌^◌, drop, min}
use Rattle.instantiate.specs.inner.Steps.{index_along}
use Rattle.instantiate.proofs.rows.index_of.Given as goal

abbrev pub invariant-loop-row : goal.invariant-loop-row
invariant-loop-row l = record {
  within : l.index ≤ 2 ^ 64 - 1;
  whole : min (index_along l.steps l.index (drop l.row-index l.rows)) (2 ^ 64 - 1) ≡ min (index_along l.steps 0 l.rows) (2 ^ 64 - 1);
}
