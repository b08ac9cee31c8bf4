use Rattle.std.proofs.Common.{◌≡◌, [], take, drop}
use Rattle.ground_theory.specs.inner.Rings.{from_zero}
use Rattle.ground_theory.proofs.ring.turned.Given as goal

abbrev pub invariant-loop-place : goal.invariant-loop-place
invariant-loop-place l = record {
  none : l.list.items ≡ [];
  so_far : from_zero (take l.place l.chain) (drop l.place l.chain) ≡ from_zero [] l.chain;
}
