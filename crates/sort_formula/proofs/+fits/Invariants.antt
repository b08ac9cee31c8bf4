use Rattle.std.proofs.Common.{◌≡◌, drop}
use Rattle.std.specs.List.{list_all}
use Rattle.sort_formula.specs.Sentences.{formula_fits}
use Rattle.sort_formula.specs.inner.Standing.{tables_outside}
use Rattle.sort_formula.proofs.+fits.Given as goal

-- all so far fit
abbrev pub invariant-fits::all_fit-loop-part : goal.invariant-fits::all_fit-loop-part
invariant-fits::all_fit-loop-part l =
    list_all (λ part. formula_fits l.tables part (tables_outside l.outside)) (drop l.part-index l.parts)
    ≡ list_all (λ part. formula_fits l.tables part (tables_outside l.outside)) l.parts
