use Rattle.std.proofs.Common.{◌∙◌}
use Rattle.sql_bind.specs.Schemas.{no_constraints}
use Rattle.sql_bind.proofs.Loops.{goes_on, stops, ends}
use Rattle.sql_bind.proofs.Tables.{rules_rest, rule_step, rule_steps, rules_over}
use Rattle.sql_bind.proofs.foreign.Home.bind_rules.Goals as goal

pub returns-in_err-constraints : goal.returns-in_err-constraints
returns-in_err-constraints c =
    let home = c.args.self.now in
    let outlines = home.declared.now.outlines.now in
    let trees = home.declared.now.trees.now in
    stops (rules_rest outlines trees home.table.now home.name.now home.number) (rule_step outlines trees home.table.now home.name.now home.number) (rule_steps outlines trees home.table.now home.name.now home.number)
    (rules_rest outlines trees home.table.now home.name.now home.number no_constraints c.args.rules.now) c.loop-rule.constraints c.args.rules.now c.loop-rule.rule-index c.loop-rule.invariant
    c.rule-item.result c.loop-rule-test.true c.rule-item.is c.in_err-constraints.field-0.0 c.from_residual.result c.in_err-constraints.ensures c.from_residual.ensures.1

pub loop-rule-preserved : goal.loop-rule-preserved
loop-rule-preserved c =
    let home = c.args.self.now in
    let outlines = home.declared.now.outlines.now in
    let trees = home.declared.now.trees.now in
    goes_on (rules_rest outlines trees home.table.now home.name.now home.number) (rule_step outlines trees home.table.now home.name.now home.number) (rule_steps outlines trees home.table.now home.name.now home.number)
    (rules_rest outlines trees home.table.now home.name.now home.number no_constraints c.args.rules.now) c.loop-rule.constraints c.args.rules.now c.loop-rule.rule-index c.loop-rule.invariant
    c.rule-item.result c.loop-rule-test.true c.rule-item.is c.in_ok-constraints.constraints c.in_ok-constraints.ensures

pub returns : goal.returns
returns c =
    let home = c.args.self.now in
    let outlines = home.declared.now.outlines.now in
    let trees = home.declared.now.trees.now in
    ends (rules_rest outlines trees home.table.now home.name.now home.number) (rule_step outlines trees home.table.now home.name.now home.number) (rule_steps outlines trees home.table.now home.name.now home.number)
    (rules_rest outlines trees home.table.now home.name.now home.number no_constraints c.args.rules.now) c.loop-rule.constraints c.args.rules.now c.loop-rule.rule-index c.loop-rule.invariant c.loop-rule-test.false
    ∙ rules_over outlines trees home.table.now home.name.now home.number c.loop-rule.constraints
