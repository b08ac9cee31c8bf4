use Rattle.std.proofs.Common.{◌≡◌, ◌∙◌, ap, ap₂, [], ◌∷◌, ◌++◌, map, List}
use Rattle.sort_formula.specs.declared.formula.Formula.{Formula}
use Rattle.sort_formula.specs.Axioms.{Axiom, axioms}
use Rattle.lint_engine.specs.Settled.{judged}
use Rattle.lint_engine.proofs.OrParts.{judged_fit}
use Rattle.lint_engine.proofs.settling.judged_by.Goals as goal

pub returns-clause-fit : goal.returns-clause-fit
returns-clause-fit c =
    let schema = c.args.schema.now in
    let parts = c.args.parts.now in
    let rest : List Formula = map (λ (a : Axiom). a.sentence) (axioms schema) in
    let first = c.in_ok-push.ensures.ok ∙ ap₂ (λ (ss : List Formula) (s : Formula). ss ++ s ∷ []) c.new-sentences.ensures c.in_ok-either.ensures in
    let same : c.push_axioms.new.sentences ≡ judged schema parts = c.in_ok-push_axioms.ensures.listed ∙ ap (λ (ss : List Formula). ss ++ rest) first in
    judged_fit schema parts c.push_axioms.new.sentences same c.requires.fit c.in_ok-push_axioms.ensures.fit
