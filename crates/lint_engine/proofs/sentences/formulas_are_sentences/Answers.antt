use Rattle.std.proofs.Common.{◌≡◌, true, subst}
use Rattle.std.proofs.lemmas.List.{take_all}
use Rattle.std.specs.Prelude.{All}
use Rattle.sort_formula.specs.declared.formula.Formula.{Formula}
use Rattle.sort_formula.specs.Sentences.{is_sentence}
use Rattle.lint_engine.proofs.Listed.{all_more}
use Rattle.lint_engine.proofs.sentences.formulas_are_sentences.Goals as goal

pub loop-sentence-preserved : goal.loop-sentence-preserved
loop-sentence-preserved c =
    all_more (λ (s : Formula). is_sentence s ≡ true) c.args.sentences.now c.loop-sentence.sentence-index c.sentence-item.result c.loop-sentence-test.true c.sentence-item.is
    c.formula.ensures.sentence c.loop-sentence.invariant

pub returns : goal.returns
returns c =
    subst (All (λ (s : Formula). is_sentence s ≡ true)) (take_all c.loop-sentence.sentence-index c.args.sentences.now c.loop-sentence-test.false) c.loop-sentence.invariant
