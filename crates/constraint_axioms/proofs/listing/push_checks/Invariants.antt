use Rattle.std.proofs.Common.{◌≡◌, ◌++◌, map, take}
use Rattle.sort_formula.specs.Axioms.{check_axiom}
use Rattle.constraint_axioms.specs.Spoken.{spoken}
use Rattle.constraint_axioms.proofs.listing.push_checks.Given as goal

abbrev pub invariant-loop-check : goal.invariant-loop-check
invariant-loop-check l =
    map spoken l.axioms.items ≡ map spoken l.initial.axioms.items ++ map (check_axiom l.schema l.number l.table) (take l.check-index l.table.checks)
