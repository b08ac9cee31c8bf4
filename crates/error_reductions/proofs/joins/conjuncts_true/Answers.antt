use Rattle.std.proofs.Common.{◌≡◌, ◌∙◌, sym, ap, subst}
use Rattle.std.specs.List.{filter}
use Rattle.lint_core.specs.declared.condition.Cond.{Cond}
use Rattle.lint_core.specs.Asked.{main_condition}
use Rattle.lint_core.specs.Conjuncts.{conjuncts}
use Rattle.sql_meaning.specs.Behind.{behind}
use Rattle.truth_formula.specs.Scopes.{CanStand}
use Rattle.error_reductions.specs.inner.Parts.{is_chosen}
use Rattle.error_reductions.specs.inner.Stands.{AllStand}
use Rattle.error_reductions.proofs.Conjuncts.{passing}
use Rattle.error_reductions.proofs.joins.conjuncts_true.Goals as goal

pub each_true-requires : goal.each_true-requires
each_true-requires c =
    let schema = c.args.schema.now in
    let scope = c.args.scope.now in
    let whole = conjuncts (main_condition c.args.query.now) in
    let kept = filter (is_chosen c.args.entry c.args.named) in
    let is : behind c.as_slice-2.result.now ≡ kept whole =
    ap behind c.as_slice-2.ensures.value ∙ (c.in_ok-chosen.ensures ∙ ap kept (ap behind c.as_slice.ensures.value ∙ c.in_ok-conds.ensures))
    in
    subst (AllStand schema scope) (sym is) (passing (λ (k : Cond). CanStand schema k scope) (is_chosen c.args.entry c.args.named) whole c.requires)
