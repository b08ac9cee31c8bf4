use Rattle.std.proofs.Common.{◌≡◌, ◌++◌, [], map, drop}
use Rattle.sort_formula.specs.Axioms.{not_null_axioms}
use Rattle.constraint_axioms.specs.Spoken.{spoken}
use Rattle.constraint_axioms.proofs.listing.push_not_nulls.Given as goal

abbrev pub invariant-loop-index : goal.invariant-loop-index
invariant-loop-index l =
    map spoken l.axioms.items ++ not_null_axioms [] l.number l.table l.index (drop l.index l.table.columns)
    ≡ map spoken l.initial.axioms.items ++ not_null_axioms [] l.number l.table 0 l.table.columns
