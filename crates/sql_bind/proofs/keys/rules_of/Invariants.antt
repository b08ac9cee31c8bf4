use Rattle.std.proofs.Common.{◌≡◌, ◌++◌, drop}
use Rattle.sql_bind.specs.Columns.{rules_of}
use Rattle.sql_bind.specs.inner.Passes.{behind}
use Rattle.sql_bind.proofs.keys.rules_of.Given as goal

abbrev pub invariant-loop-element : goal.invariant-loop-element
invariant-loop-element l = behind l.rules.items ++ rules_of (drop l.element-index l.elements) ≡ rules_of l.elements
