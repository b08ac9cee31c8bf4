use Rattle.std.proofs.Common.{◌≡◌, ◌≤◌, ◌+◌, ◌-◌, ◌^◌, drop}
use Rattle.instantiate.specs.inner.Spots.{saturated, stage_size}
use Rattle.instantiate.proofs.counts.size_of_stage.Given as goal

abbrev pub invariant-loop-spots : goal.invariant-loop-spots
invariant-loop-spots l = record {
  within : l.size ≤ 2 ^ 64 - 1;
  total : saturated (l.size + stage_size (drop l.spots-index l.all) l.stage) ≡ saturated (stage_size l.all l.stage);
}
