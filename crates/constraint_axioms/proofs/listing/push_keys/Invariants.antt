use Rattle.std.proofs.Common.{◌≡◌, ◌++◌, [], map, take}
use Rattle.sort_formula.specs.Axioms.{key_axiom}
use Rattle.constraint_axioms.specs.Spoken.{spoken}
use Rattle.constraint_axioms.proofs.listing.push_keys.Given as goal

abbrev pub invariant-loop-key : goal.invariant-loop-key
invariant-loop-key l =
    map spoken l.axioms.items ≡ map spoken l.initial.axioms.items ++ map (key_axiom [] l.number l.table) (take l.key-index l.table.keys)
