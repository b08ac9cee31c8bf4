use Rattle.std.proofs.Common.{◌≡◌, drop}
use Rattle.sql_meaning.specs.inner.Plan.{are_same_values}
use Rattle.sql_meaning.proofs.clauses.are_same_items.Given as goal

abbrev pub invariant-loop-item : goal.invariant-loop-item
invariant-loop-item l = are_same_values l.database l.tables l.one.levels l.two.levels (drop l.item-index l.items) ≡ are_same_values l.database l.tables l.one.levels l.two.levels l.items
