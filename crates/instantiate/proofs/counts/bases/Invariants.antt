use Rattle.std.proofs.Common.{take}
use Rattle.instantiate.specs.inner.Bases.{ArePassed, HaveBases}
use Rattle.instantiate.proofs.counts.bases.Given as goal

abbrev pub invariant-loop-spots : goal.invariant-loop-spots
invariant-loop-spots l = record {
  bases : HaveBases l.initial.next (take l.spots-index l.all) l.bases;
  next : ArePassed l.initial.next (take l.spots-index l.all) l.next;
}
