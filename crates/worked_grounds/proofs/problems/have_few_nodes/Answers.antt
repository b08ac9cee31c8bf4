use Rattle.std.proofs.Common.{◌≡◌, ℕ, ◌-◌, ◌<◌, ◌^◌, subst, arith}
use Rattle.std.proofs.lemmas.List.{take_all}
use Rattle.std.proofs.lemmas.List.Elements.{All-more}
use Rattle.std.specs.Prelude.{All, min}
use Rattle.sort_formula.specs.declared.formula.Formula.{Formula}
use Rattle.sort_formula.specs.Nodes.{nodes}
use Rattle.worked_grounds.proofs.problems.have_few_nodes.Goals as goal

-- a count of nodes that stops at the greatest `u64`
few_counted : (n m : ℕ) → m ≡ min n (2 ^ 64 - 1) → m < 2 ^ 32 → n < 2 ^ 32
few_counted n m is low = omega arith

pub loop-sentence-preserved : goal.loop-sentence-preserved
loop-sentence-preserved c =
    All-more (λ (s : Formula). nodes s < 2 ^ 32) c.args.sentences.now c.loop-sentence.sentence-index c.sentence-item.result c.loop-sentence-test.true c.loop-sentence.invariant
    (subst (λ (s : Formula). nodes s < 2 ^ 32) c.sentence-item.is (few_counted (nodes c.sentence-item.result) c.nodes.result c.nodes.ensures c.if-nodes.false))

pub returns : goal.returns
returns c = λ yes.
    subst (All (λ (s : Formula). nodes s < 2 ^ 32)) (take_all c.loop-sentence.sentence-index c.args.sentences.now c.loop-sentence-test.false) c.loop-sentence.invariant
