use Rattle.std.proofs.Common.{◌≡◌, ◌∙◌, sym, ap₂, subst, Bool, true, false}
use Rattle.std.proofs.lemmas.Result.{IfOk-weaker}
use Rattle.lint_core.specs.declared.condition.Cond.{Cond}
use Rattle.lint_core.specs.declared.condition.Cond.TheVariants as cond
use Rattle.lint_core.specs.declared.scope.Scope.{Scope}
use Rattle.lint_core.specs.Asked.{main_condition}
use Rattle.lint_core.specs.Predicates.{with_replaced}
use Rattle.sort_formula.specs.Counters.{scope}
use Rattle.sort_formula.specs.Translation.{is_true_formula}
use Rattle.sql_meaning.specs.Replacing.{constant}
use Rattle.truth_formula.specs.Scopes.{CanStand}
use Rattle.error_reductions.proofs.MainScope.{few_entries, own_is}
use Rattle.error_reductions.proofs.replaced.replaced_formula.Goals as goal

either_stands : (by : Bool) (P : Cond → Type 0) → P cond.True → P cond.False → P (constant by)
either_stands true P here there = here
either_stands false P here there = there

pub own_scope-requires : goal.own_scope-requires
own_scope-requires c = few_entries c.args.schema.now c.args.query.now c.requires

pub is_true-requires : goal.is_true-requires
is_true-requires c =
    let schema = c.args.schema.now in
    let query = c.args.query.now in
    let law = c.asked_sentences_have_room.ensures in
    let stands = either_stands c.args.by (λ (by : Cond). CanStand schema (with_replaced by c.args.predicate (main_condition query)) (scope schema query))
    (law.implied schema query c.args.predicate c.requires) (law.impossible schema query c.args.predicate c.requires)
    in
    subst (λ (s : Scope). CanStand schema c.in_ok-cond.cond s) (sym (c.in_ok-scope.ensures ∙ sym (own_is schema query)))
    (subst (λ (k : Cond). CanStand schema k (scope schema query)) (sym c.in_ok-cond.ensures) stands)

pub returns : goal.returns
returns c =
    let schema = c.args.schema.now in
    let query = c.args.query.now in
    let replaced = with_replaced (constant c.args.by) c.args.predicate (main_condition query) in
    IfOk-weaker c.is_true.result (λ formula. formula ≡ is_true_formula schema c.in_ok-cond.cond c.in_ok-scope.scope) (λ formula. formula ≡ is_true_formula schema replaced (scope schema query))
    (λ formula is. is ∙ ap₂ (is_true_formula schema) c.in_ok-cond.ensures (c.in_ok-scope.ensures ∙ sym (own_is schema query)))
    c.is_true.ensures.formula
