use Rattle.std.proofs.Common.{◌≡◌}
use Rattle.insert_lines.specs.InsertOrder.{written_after}
use Rattle.insert_lines.proofs.ordering.written_after.Given as goal

abbrev pub invariant-loop : goal.invariant-loop
invariant-loop l = l.written ≡ written_after l.tables l.counter
