use Rattle.std.proofs.Common.{◌≡◌, ◌++◌, drop}
use Rattle.ground_theory.specs.inner.Rings.{cut_back}
use Rattle.ground_theory.proofs.ring.add_back.Given as goal

abbrev pub invariant-loop-place : goal.invariant-loop-place
invariant-loop-place l = l.list.items ++ cut_back l.cells (drop l.place l.chain) ≡ l.fn.list.items ++ cut_back l.cells l.chain
