use Rattle.std.proofs.Common.{◌≡◌, ℕ, subst, arith}
use Rattle.text_classes.specs.inner.Fresh.{AreHeld}
use Rattle.text_classes.proofs.Holding.{clashing, held_more}
use Rattle.text_classes.proofs.labels.hold.Goals as goal

pub returns-in-Some : goal.returns-in-Some
returns-in-Some c =
    clashing c.args.vars c.args.nodes c.loop-node.node c.class-class.result c.args.forest.now c.loop-node.held.items c.requires.indexed c.loop-node.invariant c.class-class.ensures (omega arith) (omega arith) c.index.result.now c.index.ensures c.in-Some.other c.in-Some.is

pub loop-node-preserved : goal.loop-node-preserved
loop-node-preserved c =
    held_more c.args.vars c.args.nodes c.loop-node.node c.class-class.result c.args.forest.now c.loop-node.held.items c.requires.indexed c.loop-node.invariant c.class-class.ensures (omega arith) (omega arith) c.index.result.now c.index.ensures c.in_default.is

pub returns : goal.returns
returns c =
    let end : c.loop-node.node ≡ c.args.nodes = (let f = c.loop-node-test.false in omega arith) in
    subst (λ (k : ℕ). AreHeld c.args.vars k c.args.forest.now c.loop-node.held.items) end c.loop-node.invariant
