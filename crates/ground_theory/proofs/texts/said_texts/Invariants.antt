use Rattle.std.proofs.Common.{◌≡◌, ◌++◌, drop}
use Rattle.ground_theory.specs.inner.Sifting.{gathered}
use Rattle.ground_theory.specs.inner.TextSystem.{said_fact, said_origin}
use Rattle.ground_theory.proofs.texts.said_texts.Given as goal

abbrev pub invariant-loop-number : goal.invariant-loop-number
invariant-loop-number l = record {
  facts : l.system.facts.items ++ gathered (said_fact l.numbering.places.items) l.number (drop l.number l.literals) ≡ gathered (said_fact l.numbering.places.items) 0 l.literals;
  origins : l.system.origins.items ++ gathered said_origin l.number (drop l.number l.literals) ≡ gathered said_origin 0 l.literals;
}
