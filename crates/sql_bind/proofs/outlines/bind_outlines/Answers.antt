use Rattle.std.proofs.Common.{[]}
use Rattle.sql_bind.specs.Columns.{bind_outlines}
use Rattle.sql_bind.specs.inner.Passes.{outline_step}
use Rattle.sql_bind.proofs.Loops.{goes_on, stops, ends}
use Rattle.sql_bind.proofs.Passes.{outline_steps}
use Rattle.sql_bind.proofs.outlines.bind_outlines.Goals as goal

pub returns-in_err-outlines : goal.returns-in_err-outlines
returns-in_err-outlines c =
    stops bind_outlines outline_step outline_steps (bind_outlines [] c.args.trees.now) c.loop-tree.outlines c.args.trees.now c.loop-tree.tree-index c.loop-tree.invariant
    c.tree-item.result c.loop-tree-test.true c.tree-item.is c.in_err-outlines.field-0.0 c.from_residual.result c.in_err-outlines.ensures c.from_residual.ensures.1

pub loop-tree-preserved : goal.loop-tree-preserved
loop-tree-preserved c =
    goes_on bind_outlines outline_step outline_steps (bind_outlines [] c.args.trees.now) c.loop-tree.outlines c.args.trees.now c.loop-tree.tree-index c.loop-tree.invariant
    c.tree-item.result c.loop-tree-test.true c.tree-item.is c.in_ok-outlines.outlines c.in_ok-outlines.ensures

pub returns : goal.returns
unfolding bind_outlines
returns c =
    ends bind_outlines outline_step outline_steps (bind_outlines [] c.args.trees.now) c.loop-tree.outlines c.args.trees.now c.loop-tree.tree-index c.loop-tree.invariant c.loop-tree-test.false
