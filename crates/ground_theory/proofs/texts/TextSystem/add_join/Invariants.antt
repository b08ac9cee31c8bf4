use Rattle.std.proofs.Common.{◌≡◌, ◌++◌, drop}
use Rattle.ground_theory.specs.Assignments.{domains_at}
use Rattle.ground_theory.specs.inner.Sums.{told}
use Rattle.ground_theory.specs.inner.TextSystem.{fact_at_column, origin_at_column}
use Rattle.ground_theory.proofs.texts.TextSystem.add_join.Given as goal

abbrev pub invariant-loop-column : goal.invariant-loop-column
invariant-loop-column l = record {
  facts : l.self.facts.items ++ told (fact_at_column l.frame l.numbering.places.items l.join) l.column (drop l.column (domains_at l.frame l.join.row))
      ≡ l.fn.self.facts.items ++ told (fact_at_column l.frame l.numbering.places.items l.join) 0 (domains_at l.frame l.join.row);
  origins : l.self.origins.items ++ told (origin_at_column l.frame l.numbering.places.items l.join) l.column (drop l.column (domains_at l.frame l.join.row))
      ≡ l.fn.self.origins.items ++ told (origin_at_column l.frame l.numbering.places.items l.join) 0 (domains_at l.frame l.join.row);
}
