use Rattle.sql_bind.specs.Columns.{rules_of}
use Rattle.sql_bind.specs.inner.Passes.{behind}
use Rattle.sql_bind.proofs.Passes.{rules_next, rules_end}
use Rattle.sql_bind.proofs.keys.rules_of.Goals as goal

pub loop-element-preserved : goal.loop-element-preserved
loop-element-preserved c =
    rules_next (behind c.loop-element.rules.items) (behind c.add_rules.new.rules.items) (rules_of c.args.elements.now) c.args.elements.now c.loop-element.element-index c.element-item.result
    c.loop-element-test.true c.element-item.is c.in_ok-add_rules.ensures c.loop-element.invariant

pub returns : goal.returns
returns c = rules_end (behind c.loop-element.rules.items) (rules_of c.args.elements.now) c.args.elements.now c.loop-element.element-index c.loop-element-test.false c.loop-element.invariant
