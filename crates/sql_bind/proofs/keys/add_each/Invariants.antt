use Rattle.std.proofs.Common.{◌≡◌, ◌++◌, take}
use Rattle.sql_bind.specs.inner.Passes.{behind}
use Rattle.sql_bind.proofs.keys.add_each.Given as goal

abbrev pub invariant-loop-rule : goal.invariant-loop-rule
invariant-loop-rule l = behind l.rules.items ≡ behind l.initial.rules.items ++ take l.rule-index l.more
