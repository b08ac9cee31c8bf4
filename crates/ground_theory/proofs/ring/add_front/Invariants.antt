use Rattle.std.proofs.Common.{◌≡◌, drop}
use Rattle.ground_theory.specs.inner.Rings.{cut_front}
use Rattle.ground_theory.proofs.ring.add_front.Given as goal

abbrev pub invariant-loop-place : goal.invariant-loop-place
invariant-loop-place l = record {
  same : l.list.items ≡ l.fn.list.items;
  so_far : cut_front l.cells (drop l.place l.chain) ≡ cut_front l.cells l.chain;
}
