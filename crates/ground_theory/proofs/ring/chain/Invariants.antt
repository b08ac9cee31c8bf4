use Rattle.std.proofs.Common.{◌≡◌, map, take}
use Rattle.ground_theory.specs.inner.Rings.{stated_at}
use Rattle.ground_theory.proofs.ring.chain.Given as goal

abbrev pub invariant-loop-number : goal.invariant-loop-number
invariant-loop-number l = l.chain.items ≡ map (stated_at l.stated) (take l.number-index l.ring)
