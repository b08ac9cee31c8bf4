-- What the steps of a problem's certificate are to do: they close the branch with which a certificate starts, whatever its facts are, as long
-- as the sentences of the problem stand among them where the problem says.
use Rattle.std.specs.Prelude.{◌≡◌, ℕ, List, [], ◌∷◌, length, Some, slice_get}
use Rattle.lint_core.specs.declared.certificate.Step.{Step}
use Rattle.lint_core.specs.declared.schema.Table.{Table}
use Rattle.sort_formula.specs.declared.formula.Formula.{Formula}
use Rattle.sort_formula.specs.Certificate.{branches_after, fact_of}
use Rattle.sort_formula.specs.Facts.{Fact}
use Rattle.instantiate.specs.declared.problem.Problem.{Problem}
use Rattle.instantiate.specs.Ground.{domains_of}

-- each sentence stands at its number, and there are as many facts as the problem says
pub record IsStart (problem : Problem) (facts : List Fact) : Type 0 where
  pub sentences : (sentence number : ℕ) (formula : Formula) → slice_get problem.sentences sentence ≡ Some formula → slice_get problem.numbers sentence ≡ Some number
      → slice_get facts number ≡ Some (fact_of [] formula)
  pub as_many : slice_get problem.numbers (length problem.sentences) ≡ Some (length facts)

-- over each schema of the problem's domains, and from each such start, the steps lead to no branch
abbrev pub AreSteps : Problem → List Step → Type 0
AreSteps problem steps = (schema : List Table) → domains_of schema ≡ problem.frame.domains → (facts : List Fact) → IsStart problem facts
    → branches_after schema steps (record { facts = facts; tables = [] } ∷ []) ≡ Some []
