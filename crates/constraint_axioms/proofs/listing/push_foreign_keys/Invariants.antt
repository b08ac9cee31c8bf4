use Rattle.std.proofs.Common.{◌≡◌, ◌++◌, [], map, drop}
use Rattle.sort_formula.specs.Axioms.{foreign_axioms}
use Rattle.constraint_axioms.specs.Spoken.{spoken}
use Rattle.constraint_axioms.proofs.listing.push_foreign_keys.Given as goal

abbrev pub invariant-loop-index : goal.invariant-loop-index
invariant-loop-index l =
    map spoken l.axioms.items ++ foreign_axioms [] l.number l.table l.index (drop l.index l.table.foreign)
    ≡ map spoken l.initial.axioms.items ++ foreign_axioms [] l.number l.table 0 l.table.foreign
