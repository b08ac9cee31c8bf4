use Rattle.std.proofs.Common.{◌≡◌, ◌++◌, drop}
use Rattle.ground_theory.specs.Assignments.{domains_at}
use Rattle.ground_theory.specs.inner.Sums.{told, same_at}
use Rattle.ground_theory.proofs.numbers.add_join.Given as goal

abbrev pub invariant-loop-column : goal.invariant-loop-column
invariant-loop-column l =
    l.list.items ++ told (same_at l.numbering.places.items l.join) l.column (drop l.column (domains_at l.frame l.join.row))
    ≡ l.fn.list.items ++ told (same_at l.numbering.places.items l.join) 0 (domains_at l.frame l.join.row)
