use Rattle.std.proofs.Common.{◌≡◌, drop}
use Rattle.sql_bind.specs.Schemas.{no_constraints}
use Rattle.sql_bind.proofs.Tables.{rules_rest}
use Rattle.sql_bind.proofs.foreign.Home.bind_rules.Given as goal

abbrev pub invariant-loop-rule : goal.invariant-loop-rule
invariant-loop-rule l =
    rules_rest l.self.declared.now.outlines.now l.self.declared.now.trees.now l.self.table.now l.self.name.now l.self.number l.constraints (drop l.rule-index l.rules)
    ≡ rules_rest l.self.declared.now.outlines.now l.self.declared.now.trees.now l.self.table.now l.self.name.now l.self.number no_constraints l.rules
