use Rattle.std.proofs.Common.{◌≡◌, ◌++◌, drop}
use Rattle.ground_theory.specs.TextLeaf.{walk}
use Rattle.ground_theory.proofs.chains.walk.Given as goal

abbrev pub invariant-loop-number : goal.invariant-loop-number
invariant-loop-number l =
    l.edges.items ++ walk l.system.origins.items l.system.facts.items l.at (drop l.number-index l.path)
    ≡ walk l.system.origins.items l.system.facts.items l.fn.from l.path
