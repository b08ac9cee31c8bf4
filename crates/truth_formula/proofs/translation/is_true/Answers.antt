use Rattle.std.proofs.Common.{◌≡◌, ◌∙◌, ◌^◌, ap₂, true}
use Rattle.std.proofs.lemmas.Result.{IfOk-weaker}
use Rattle.sort_formula.specs.Translation.{is_true_formula, translation}
use Rattle.sort_formula.specs.Bounds.{is_within}
use Rattle.truth_formula.specs.inner.HalfOpen.{is_half_open}
use Rattle.truth_formula.specs.inner.Parts.{chosen}
use Rattle.truth_formula.specs.inner.Standing.{scope_of}
use Rattle.truth_formula.proofs.Nearness.{near_within}
use Rattle.truth_formula.proofs.translation.is_true.Goals as goal

pub returns-clause-formula : goal.returns-clause-formula
returns-clause-formula c =
    IfOk-weaker c.translate.result
    (λ made. made ≡ chosen true (translation c.as_slice.result.now c.args.cond.now (scope_of c.new-standing.result)))
    (λ made. made ≡ is_true_formula c.args.schema.now c.args.cond.now c.args.scope.now)
    (λ made is. is ∙ ap₂ (λ tables scope. chosen true (translation tables c.args.cond.now scope)) (c.as_slice.ensures ∙ c.tables.ensures.tables) c.new-standing.ensures)
    c.translate.ensures.formula

pub returns-clause-bounds : goal.returns-clause-bounds
returns-clause-bounds c =
    IfOk-weaker c.translate.result (λ made. is_half_open made ≡ true) (λ made. is_within (2 ^ 65) made ≡ true) near_within c.translate.ensures.bounds
