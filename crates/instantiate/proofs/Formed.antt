-- What stands at a node, by how its formula was made.
use Rattle.std.proofs.Common.{◌≡◌, ◌∙◌, sym, ap, refl, ℕ, true, false, List, [], ◌∷◌, length, map}
use Rattle.std.specs.Prelude.{Option, None, replicate}
use Rattle.sort_formula.specs.declared.formula.Atom.{Atom}
use Rattle.sort_formula.specs.declared.formula.Formula.{Formula, out-Formula, roll-Formula, roll-out-Formula}
use Rattle.sort_formula.specs.declared.formula.Formula.TheVariants as f
use Rattle.sort_formula.specs.declared.formula.Formula.TheOpen.{Formula-F}
use Rattle.sorted_skolem.specs.Preorder.{forall_in}
use Rattle.ground_theory.specs.declared.literal.Literal.{Literal}
use Rattle.instantiate.specs.Ground.{ways_in}

abbrev pub no_literal : Option Literal
no_literal = None

module _ (g : Formula) where
  pub forall_is : (table : ℕ) (body : Formula) → g ≡ f.Forall table body → forall_in (out-Formula g) ≡ true
  forall_is table body is = ap (λ h. forall_in (out-Formula h)) is ∙ ap forall_in (f.outs-Forall table body)

  pub forall_not : ((table : ℕ) (body : Formula) → g ≡ f.Forall table body → ⊥) → forall_in (out-Formula g) ≡ false
  forall_not never = by (out-Formula g) refl
    where
      by : (z : Formula-F Formula) → out-Formula g ≡ z → forall_in z ≡ false
      by (Formula-F.Atom a) is = refl
      by (Formula-F.And parts) is = refl
      by (Formula-F.Or parts) is = refl
      by (Formula-F.Exists table body) is = refl
      by (Formula-F.Forall table body) is = absurd (never table body (sym (roll-out-Formula g) ∙ (ap roll-Formula is ∙ f.rolls-Forall table body)))

  pub ways_or : (variables : List ℕ) (parts : List Formula) → g ≡ f.Or parts → ways_in variables (out-Formula g) ≡ replicate (length parts) None
  ways_or variables parts is = ap (λ h. ways_in variables (out-Formula h)) is ∙ (ap (ways_in variables) (f.outs-Or parts) ∙ nones parts)
    where
      nones : (parts : List Formula) → map (λ part. no_literal) parts ≡ replicate (length parts) no_literal
      nones [] = refl
      nones (part ∷ parts) = ap (λ ns. no_literal ∷ ns) (nones parts)

  pub ways_other : (variables : List ℕ) → ((a : Atom) → g ≡ f.Atom a → ⊥) → ((parts : List Formula) → g ≡ f.Or parts → ⊥) → ways_in variables (out-Formula g) ≡ None ∷ []
  ways_other variables no_atom no_or = by (out-Formula g) refl
    where
      by : (z : Formula-F Formula) → out-Formula g ≡ z → ways_in variables z ≡ None ∷ []
      by (Formula-F.Atom a) is = absurd (no_atom a (sym (roll-out-Formula g) ∙ (ap roll-Formula is ∙ f.rolls-Atom a)))
      by (Formula-F.And parts) is = refl
      by (Formula-F.Or parts) is = absurd (no_or parts (sym (roll-out-Formula g) ∙ (ap roll-Formula is ∙ f.rolls-Or parts)))
      by (Formula-F.Exists table body) is = refl
      by (Formula-F.Forall table body) is = refl
