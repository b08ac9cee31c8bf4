use Rattle.std.proofs.Common.{◌≡◌, drop}
use Rattle.std.specs.List.{list_all}
use Rattle.sort_formula.specs.Sentences.{is_bound}
use Rattle.sort_formula.specs.inner.Standing.{tables_outside}
use Rattle.sort_formula.proofs.+bound.Given as goal

-- all so far are bound
abbrev pub invariant-sentence::all_bound-loop-part : goal.invariant-sentence::all_bound-loop-part
invariant-sentence::all_bound-loop-part l =
    list_all (λ part. is_bound part (tables_outside l.outside)) (drop l.part-index l.parts)
    ≡ list_all (λ part. is_bound part (tables_outside l.outside)) l.parts
