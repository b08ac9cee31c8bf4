use Rattle.std.proofs.Common.{◌≡◌, ◌≤◌, ◌+◌, ◌-◌, ◌^◌, drop}
use Rattle.instantiate.specs.inner.Spots.{saturated, sentence_size}
use Rattle.instantiate.proofs.counts.size_of_sentence.Given as goal

abbrev pub invariant-loop-spot : goal.invariant-loop-spot
invariant-loop-spot l = record {
  within : l.size ≤ 2 ^ 64 - 1;
  total : saturated (l.size + sentence_size l.stage (drop l.spot-index l.spots)) ≡ saturated (sentence_size l.stage l.spots);
}
