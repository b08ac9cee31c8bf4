use Rattle.std.proofs.Common.{◌∙◌, sym, ap, subst, arith, map}
use Rattle.lint_core.specs.declared.condition.Cond.{Cond}
use Rattle.lint_core.specs.declared.scope.Scope.{Scope}
use Rattle.lint_core.specs.Asked.{conjuncts_with, main_condition}
use Rattle.lint_core.specs.Conjuncts.{conjuncts}
use Rattle.sort_formula.specs.Counters.{join_scope}
use Rattle.sort_formula.specs.declared.formula.Formula.TheVariants as f
use Rattle.sort_formula.specs.Translation.{is_true_formula}
use Rattle.truth_formula.specs.Scopes.{CanStand}
use Rattle.error_reductions.specs.inner.Stands.{AllStand}
use Rattle.error_reductions.proofs.Conjuncts.{each_of}
use Rattle.error_reductions.proofs.MainScope.{few_entries}
use Rattle.error_reductions.proofs.joins.fits_at.Goals as goal

pub join_scope-requires-clause-few : goal.join_scope-requires-clause-few
join_scope-requires-clause-few c = few_entries c.args.schema.now c.args.query.now c.requires.fits

pub conjuncts_true-requires : goal.conjuncts_true-requires
conjuncts_true-requires c =
    let schema = c.args.schema.now in
    let query = c.args.query.now in
    let at = join_scope schema query c.args.entry c.args.variable c.args.depth in
    subst (λ (s : Scope). AllStand schema s (conjuncts (main_condition query))) (sym c.in_ok-scope.ensures)
    (each_of (λ (part : Cond). CanStand schema part at) (conjuncts (main_condition query))
    (λ number part is. c.asked_sentences_have_room.ensures.conjunct schema query number part c.args.entry c.args.variable c.args.depth c.requires.fits is c.requires.entry c.requires.others (omega (arith, c.requires.depth)) c.requires.variable))

pub returns : goal.returns
returns c =
    let schema = c.args.schema.now in
    let query = c.args.query.now in
    ap f.And (c.in_ok-parts.ensures ∙ ap (λ (s : Scope). map (λ (p : Cond). is_true_formula schema p s) (conjuncts_with c.args.entry query)) c.in_ok-scope.ensures)
