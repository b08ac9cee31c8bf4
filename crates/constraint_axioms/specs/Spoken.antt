-- An axiom that the call gives, as the list of axioms has it.
use Rattle.constraint_axioms.specs.declared.axiom.Axiom.{Axiom}
use Rattle.sort_formula.specs.Axioms as listed

abbrev pub spoken : Axiom → listed.Axiom
spoken stated = record { sentence = stated.sentence; key = stated.key }
