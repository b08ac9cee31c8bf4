use Rattle.std.proofs.Common.{◌≡◌, drop}
use Rattle.ground_theory.specs.inner.Rings.{leads_high}
use Rattle.ground_theory.proofs.ring.leads_high.Given as goal

abbrev pub invariant-loop-stated : goal.invariant-loop-stated
invariant-loop-stated l = leads_high (drop l.stated-index l.chain) ≡ leads_high l.chain
