use Rattle.std.proofs.Common.{◌∙◌, ◌++◌, sym, ap, map, List}
use Rattle.sort_formula.specs.declared.formula.Formula.{Formula}
use Rattle.sort_formula.specs.Axioms.{Axiom as Stated}
use Rattle.lint_engine.proofs.Listed.{made_fit, spoken_sentences}
use Rattle.lint_engine.proofs.sentences.push_axioms.Goals as goal

pub returns-clause-listed : goal.returns-clause-listed
returns-clause-listed c =
    c.in_ok-push_sentences.ensures
    ∙ ap (λ (ss : List Formula). c.args.sentences.now ++ ss)
    (sym (ap (map (λ (a : Stated). a.sentence)) (sym c.in_ok-list.ensures.listed) ∙ spoken_sentences c.in_ok-list.list.items))

pub returns-clause-fit : goal.returns-clause-fit
returns-clause-fit c = made_fit c.args.schema.now c.in_ok-list.list.items c.in_ok-list.ensures.listed c.in_ok-list.ensures.fits
