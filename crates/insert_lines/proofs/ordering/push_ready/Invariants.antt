use Rattle.std.proofs.Common.{◌≡◌, []}
use Rattle.std.specs.List.{filter}
use Rattle.lint_core.specs.Database.{below}
use Rattle.insert_lines.specs.InsertOrder.{is_ready}
use Rattle.insert_lines.proofs.ordering.push_ready.Given as goal

abbrev pub invariant-loop-number : goal.invariant-loop-number
invariant-loop-number l = record {
  same : l.written ≡ l.initial.written;
  none : filter (is_ready l.tables l.written) (below l.number) ≡ [];
}
