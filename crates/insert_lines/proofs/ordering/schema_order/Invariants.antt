use Rattle.std.proofs.Common.{◌≡◌}
use Rattle.lint_core.specs.Database.{below}
use Rattle.insert_lines.proofs.ordering.schema_order.Given as goal

abbrev pub invariant-loop-number : goal.invariant-loop-number
invariant-loop-number l = l.order ≡ below l.number
