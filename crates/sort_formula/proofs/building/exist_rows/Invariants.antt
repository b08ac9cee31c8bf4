use Rattle.std.proofs.Common.{◌≡◌}
use Rattle.sort_formula.specs.Translation.{exist_rows}
use Rattle.sort_formula.proofs.building.exist_rows.Given as goal

abbrev pub invariant-loop-table : goal.invariant-loop-table
invariant-loop-table l = exist_rows l.table-iterator.iter.rest.now l.formula ≡ exist_rows l.tables l.fn.body
