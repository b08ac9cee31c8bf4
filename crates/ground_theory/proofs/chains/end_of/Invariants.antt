use Rattle.std.proofs.Common.{◌≡◌, drop}
use Rattle.ground_theory.specs.TextLeaf.{end_of}
use Rattle.ground_theory.proofs.chains.end_of.Given as goal

abbrev pub invariant-loop-number : goal.invariant-loop-number
invariant-loop-number l =
    end_of l.system.origins.items l.system.facts.items l.at (drop l.number-index l.path) ≡ end_of l.system.origins.items l.system.facts.items l.fn.from l.path
