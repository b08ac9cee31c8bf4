use Rattle.std.proofs.Common.{◌∙◌, ap, not}
use Rattle.truth_formula.specs.inner.Standing.{scope_of}
use Rattle.truth_formula.specs.inner.Parts.{joined}
use Rattle.truth_formula.proofs.Translated.{translation_and, translation_or}
use Rattle.truth_formula.proofs.translation.+translate.Goals as goal

pub translate-returns-in_ok-parts-in-And-clause-formula : goal.translate-returns-in_ok-parts-in-And-clause-formula
translate-returns-in_ok-parts-in-And-clause-formula t c =
    rw (c.in-And.is, translation_and c.args.tables.now c.args.holds c.in-And.parts (scope_of c.args.standing.now), ← c.as_slice.ensures)
    (c.joined.ensures.formula ∙ ap (joined c.args.holds) c.in_ok-parts-in-And.ensures.formulas)

pub translate-returns-in_ok-parts-in-Or-clause-formula : goal.translate-returns-in_ok-parts-in-Or-clause-formula
translate-returns-in_ok-parts-in-Or-clause-formula t c =
    rw (c.in-Or.is, translation_or c.args.tables.now c.args.holds c.in-Or.parts (scope_of c.args.standing.now), ← c.as_slice-in-Or.ensures)
    (c.joined-in-Or.ensures.formula ∙ ap (joined (not c.args.holds)) c.in_ok-parts-in-Or.ensures.formulas)
