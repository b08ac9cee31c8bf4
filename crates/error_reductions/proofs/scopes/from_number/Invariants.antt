use Rattle.std.proofs.Common.{◌≡◌}
use Rattle.sort_formula.specs.Sides.{from_number}
use Rattle.error_reductions.proofs.scopes.from_number.Given as goal

abbrev pub invariant-loop-number : goal.invariant-loop-number
invariant-loop-number l = l.variables ≡ from_number l.first l.number
