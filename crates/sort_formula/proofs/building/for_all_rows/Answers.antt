use Rattle.std.proofs.Common.{◌∙◌, ap, sym}
use Rattle.sort_formula.specs.Translation.{for_all_rows}
use Rattle.sort_formula.proofs.LastTable.{for_all_last}
use Rattle.sort_formula.proofs.building.for_all_rows.Goals as goal

pub loop-table-preserved : goal.loop-table-preserved
loop-table-preserved c =
    let outer = c.next.new.self.iter.rest.now in
    let body = c.loop-table.formula in
    ap (for_all_rows outer) c.in_ok-formula.ensures
    ∙ (sym (for_all_last outer c.in-Some.table.now body)
    ∙ (ap (λ tables. for_all_rows tables body) (sym c.in-Some.ensures.steps) ∙ c.loop-table.invariant))
