-- What the number of the first wrong step says of the answer.
use Rattle.std.proofs.Common.{◌≡◌, ◌∙◌, sym, ap, refl, ℕ, true, false, List, [], ◌∷◌, map}
use Rattle.std.specs.Prelude.{Option, Some, None, not, is_some}
use Rattle.constraint_axioms.specs.declared.axiom.Axiom.{Axiom}
use Rattle.constraint_axioms.specs.Spoken.{spoken}
use Rattle.lint_core.specs.declared.certificate.Step.{Step}
use Rattle.lint_core.specs.declared.schema.Table.{Table}
use Rattle.sort_formula.specs.declared.formula.Formula.{Formula}
use Rattle.sort_formula.specs.Axioms as listed
use Rattle.sort_formula.specs.Certificate.{accepts, fact_of, first_branch, first_wrong, wrong_step}
use Rattle.sort_formula.specs.Facts.{Fact}

facts_spoken : (made : List Axiom) → map (λ (a : listed.Axiom). fact_of [] a.sentence) (map spoken made) ≡ map (λ (a : Axiom). fact_of [] a.sentence) made
facts_spoken [] = refl
facts_spoken (a ∷ made) = ap (λ (facts : List Fact). fact_of [] a.sentence ∷ facts) (facts_spoken made)

module _ (schema : List Table) (sentence : Formula) (steps : List Step) (made : List Axiom) (facts : List Fact) (listed_are : map spoken made ≡ listed.axioms schema)
    (facts_are : facts ≡ fact_of [] sentence ∷ map (λ (a : Axiom). fact_of [] a.sentence) made) where
  all_facts : facts ≡ (first_branch schema sentence).facts
  all_facts =
      facts_are
      ∙ ap (λ (others : List Fact). fact_of [] sentence ∷ others) (sym (facts_spoken made) ∙ ap (map (λ (a : listed.Axiom). fact_of [] a.sentence)) listed_are)

  pub wrong_is : (wrong : Option ℕ) → wrong ≡ first_wrong 1 schema steps (record { facts = facts; tables = [] } ∷ []) → wrong_step schema sentence steps ≡ wrong
  wrong_is wrong is = sym (is ∙ ap (λ facts. first_wrong 1 schema steps (record { facts = facts; tables = [] } ∷ [])) all_facts)

-- the law that steps are accepted exactly where none is wrong
abbrev pub AcceptedLaw : Type 0
AcceptedLaw = (schema : List Table) (sentence : Formula) (steps : List Step) → accepts schema sentence steps ≡ not (is_some (wrong_step schema sentence steps))

module _ (law : AcceptedLaw) (schema : List Table) (sentence : Formula) (steps : List Step) where
  pub accepted_where_none : wrong_step schema sentence steps ≡ None → accepts schema sentence steps ≡ true
  accepted_where_none none = law schema sentence steps ∙ ap (λ (wrong : Option ℕ). not (is_some wrong)) none

  pub refused_where_some : (n : ℕ) → wrong_step schema sentence steps ≡ Some n → accepts schema sentence steps ≡ false
  refused_where_some n some = law schema sentence steps ∙ ap (λ (wrong : Option ℕ). not (is_some wrong)) some
