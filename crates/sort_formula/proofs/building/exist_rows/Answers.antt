use Rattle.std.proofs.Common.{◌∙◌, ap, sym}
use Rattle.sort_formula.specs.Translation.{exist_rows}
use Rattle.sort_formula.proofs.LastTable.{exist_last}
use Rattle.sort_formula.proofs.building.exist_rows.Goals as goal

pub loop-table-preserved : goal.loop-table-preserved
loop-table-preserved c =
    let outer = c.next.new.self.iter.rest.now in
    let body = c.loop-table.formula in
    ap (exist_rows outer) c.in_ok-formula.ensures
    ∙ (sym (exist_last outer c.in-Some.table.now body)
    ∙ (ap (λ tables. exist_rows tables body) (sym c.in-Some.ensures.steps) ∙ c.loop-table.invariant))
