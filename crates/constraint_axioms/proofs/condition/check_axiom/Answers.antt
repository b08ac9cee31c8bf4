use Rattle.std.proofs.Common.{◌∙◌, ◌^◌, sym, ap, subst}
use Rattle.sort_formula.specs.declared.formula.Formula.TheVariants as f
use Rattle.sort_formula.specs.Negated.{negated}
use Rattle.sort_formula.specs.Sentences.{is_sentence}
use Rattle.sort_formula.specs.Translation.{is_false_formula}
use Rattle.lint_core.specs.declared.scope.Scope.{Scope}
use Rattle.sort_formula.specs.Bounds.{is_within}
use Rattle.truth_formula.specs.Scopes.{CanStand}
use Rattle.constraint_axioms.proofs.Violations.{can_stand, check_sentence}
use Rattle.constraint_axioms.proofs.condition.check_axiom.Goals as goal

pub is_kept-requires : goal.is_kept-requires
is_kept-requires c =
    let schema = c.args.schema.now in
    let check = c.args.check.now in
    subst (λ (s : Scope). CanStand schema check s) (sym c.in_ok-scope.ensures) (can_stand schema c.args.number check c.requires)

pub plain-requires : goal.plain-requires
plain-requires c =
    let schema = c.args.schema.now in
    let check = c.args.check.now in
    let number = c.args.number in
    let violated = ap (λ (s : Scope). is_false_formula schema check s) c.in_ok-scope.ensures in
    let kept = c.in_ok-kept.ensures.formula ∙ ap negated violated in
    ap is_sentence (c.in_ok-for_all.ensures ∙ ap (f.Forall number) kept)
    ∙ check_sentence schema number check c.requires c.formulas_fit.ensures.says_false (sym (ap (is_within (2 ^ 65)) violated) ∙ c.in_ok-kept.ensures.bounds)
