use Rattle.std.proofs.Common.{◌≡◌, ◌++◌, drop}
use Rattle.ground_theory.specs.inner.Sums.{told}
use Rattle.ground_theory.specs.inner.TextSystem.{join_facts, join_origins}
use Rattle.ground_theory.proofs.texts.TextSystem.add_sames.Given as goal

abbrev pub invariant-loop-join : goal.invariant-loop-join
invariant-loop-join l = record {
  facts : l.self.facts.items ++ told (join_facts l.frame l.numbering.places.items) l.join-index (drop l.join-index l.joins)
      ≡ l.fn.self.facts.items ++ told (join_facts l.frame l.numbering.places.items) 0 l.joins;
  origins : l.self.origins.items ++ told (join_origins l.frame l.numbering.places.items) l.join-index (drop l.join-index l.joins)
      ≡ l.fn.self.origins.items ++ told (join_origins l.frame l.numbering.places.items) 0 l.joins;
}
