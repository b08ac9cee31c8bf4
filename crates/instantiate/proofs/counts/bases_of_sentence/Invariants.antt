use Rattle.std.proofs.Common.{take}
use Rattle.instantiate.specs.inner.Spots.{AreBases, AreMoved}
use Rattle.instantiate.proofs.counts.bases_of_sentence.Given as goal

abbrev pub invariant-loop-spot : goal.invariant-loop-spot
invariant-loop-spot l = record {
  bases : AreBases l.initial.next (take l.spot-index l.spots) l.bases;
  next : AreMoved l.initial.next (take l.spot-index l.spots) l.next;
}
