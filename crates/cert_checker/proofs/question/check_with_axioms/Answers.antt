use Rattle.std.proofs.Common.{◌≡◌, ◌↔◌, subst, ℕ, List, Some, IfOk}
use Rattle.lint_core.specs.declared.certificate.Step.{Step}
use Rattle.lint_core.specs.declared.run.Checked.TheVariants as checked
use Rattle.sort_formula.specs.declared.formula.Formula.{Formula}
use Rattle.sort_formula.specs.Certificate.{wrong_step}
use Rattle.cert_checker.proofs.question.check_with_axioms.Goals as goal

pub returns-clause-refused : goal.returns-clause-refused
returns-clause-refused c =
    subst (λ (s : Formula). IfOk c.check_sentence_with_axioms.result (λ answer. (step : ℕ) → (answer ≡ checked.Refused step) ↔ (wrong_step c.args.schema.now s c.args.cert.now.steps ≡ Some step))) c.in_ok-sentence.ensures.sentence
    (subst (λ (steps : List Step). IfOk c.check_sentence_with_axioms.result (λ answer. (step : ℕ) → (answer ≡ checked.Refused step) ↔ (wrong_step c.args.schema.now c.in_ok-sentence.sentence steps ≡ Some step))) c.as_slice.ensures c.check_sentence_with_axioms.ensures.refused)
