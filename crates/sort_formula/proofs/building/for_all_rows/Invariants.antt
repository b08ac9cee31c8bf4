use Rattle.std.proofs.Common.{◌≡◌}
use Rattle.sort_formula.specs.Translation.{for_all_rows}
use Rattle.sort_formula.proofs.building.for_all_rows.Given as goal

abbrev pub invariant-loop-table : goal.invariant-loop-table
invariant-loop-table l = for_all_rows l.table-iterator.iter.rest.now l.formula ≡ for_all_rows l.tables l.fn.body
