use Rattle.std.proofs.Common.{◌≡◌, map}
use Rattle.std.specs.List.{zip}
use Rattle.sort_formula.specs.declared.formula.Atom.TheVariants as atom
use Rattle.sort_formula.specs.declared.formula.Formula.TheVariants as f
use Rattle.sort_formula.specs.Sides.{from_number}
use Rattle.error_reductions.proofs.joined.some_other.Given as goal

abbrev pub invariant-loop-number : goal.invariant-loop-number
invariant-loop-number l = l.ways ≡ map (λ pair. f.Atom (atom.Other pair.0 pair.1)) (zip (from_number l.first l.number) (from_number l.second l.number))
