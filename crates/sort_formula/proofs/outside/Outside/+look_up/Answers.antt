use Rattle.std.proofs.Common.{◌≡◌, ◌∙◌, ◌<◌, ap, arith, length, [], ◌∷◌, ◌++◌}
use Rattle.std.proofs.lemmas.Grind.{common_steps}
use Rattle.std.proofs.lemmas.List.{length-append}
use Rattle.std.specs.Prelude.{slice_get}
use Rattle.sort_formula.specs.inner.Standing.{tables_outside}
use Rattle.lint_base.proofs.Lists.{get_before, slice_get_last}
use Rattle.sort_formula.proofs.Standing.{tables_inside}
use Rattle.sort_formula.proofs.outside.Outside.+look_up.Goals as goal

pub returns-in-Ok-clause-there : goal.returns-in-Ok-clause-there
returns-in-Ok-clause-there t c =
    let tables = tables_outside c.in-Quantifier.outer.now in
    let low : c.args.row < length tables = c.in-Ok.ensures.there.0 in
    rw (c.in-Quantifier.is, tables_inside c.in-Quantifier.table c.in-Quantifier.outer, length-append tables (c.in-Quantifier.table ∷ []))
    (omega arith, get_before tables (c.in-Quantifier.table ∷ []) c.args.row low ∙ c.in-Ok.ensures.there.1)

pub returns-in-Err-eq0-clause-there : goal.returns-in-Err-eq0-clause-there
returns-in-Err-eq0-clause-there t c =
    let tables = tables_outside c.in-Quantifier.outer.now in
    let same : c.args.row ≡ length tables = grind (arith, common_steps) in
    rw (c.in-Quantifier.is, tables_inside c.in-Quantifier.table c.in-Quantifier.outer, length-append tables (c.in-Quantifier.table ∷ []))
    (omega arith, ap (slice_get (tables ++ c.in-Quantifier.table ∷ [])) same ∙ slice_get_last tables c.in-Quantifier.table)

pub returns-in-Err-clause-further : goal.returns-in-Err-clause-further
returns-in-Err-clause-further t c =
    let tables = tables_outside c.in-Quantifier.outer.now in
    rw (c.in-Quantifier.is, tables_inside c.in-Quantifier.table c.in-Quantifier.outer, length-append tables (c.in-Quantifier.table ∷ []))
    (grind (arith, common_steps))
