use Rattle.std.proofs.Common.{◌<◌, ◌^◌, subst}
use Rattle.std.proofs.lemmas.List.{take_all}
use Rattle.std.specs.Prelude.{All}
use Rattle.sort_formula.specs.declared.formula.Formula.{Formula}
use Rattle.sort_formula.specs.Nodes.{nodes}
use Rattle.lint_engine.proofs.Listed.{all_more, few_counted}
use Rattle.lint_engine.proofs.sentences.have_few_nodes.Goals as goal

pub loop-sentence-preserved : goal.loop-sentence-preserved
loop-sentence-preserved c =
    all_more (λ (s : Formula). nodes s < 2 ^ 32) c.args.sentences.now c.loop-sentence.sentence-index c.sentence-item.result c.loop-sentence-test.true c.sentence-item.is
    (few_counted (nodes c.sentence-item.result) c.nodes.result c.nodes.ensures c.if-nodes.false) c.loop-sentence.invariant

pub returns-clause-few : goal.returns-clause-few
returns-clause-few c = λ yes.
    subst (All (λ (s : Formula). nodes s < 2 ^ 32)) (take_all c.loop-sentence.sentence-index c.args.sentences.now c.loop-sentence-test.false) c.loop-sentence.invariant
