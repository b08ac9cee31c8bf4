use Rattle.std.proofs.Common.{◌≡◌, ◌++◌, ◌∷◌, [], map, drop}
use Rattle.constraint_axioms.specs.declared.axiom.Axiom.{Axiom}
use Rattle.sort_formula.specs.Certificate.{fact_of}
use Rattle.cert_checker.proofs.checking.first_facts.Given as goal

abbrev pub invariant-loop-axiom : goal.invariant-loop-axiom
invariant-loop-axiom l =
    l.facts.items ++ map (λ (a : Axiom). fact_of [] a.sentence) (drop l.axiom-index l.axioms)
    ≡ fact_of [] l.sentence ∷ map (λ (a : Axiom). fact_of [] a.sentence) l.axioms
