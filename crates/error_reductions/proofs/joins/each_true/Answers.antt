use Rattle.std.proofs.Common.{◌≡◌, ◌∙◌, refl, ap, [], ◌∷◌, ◌++◌, length, map}
use Rattle.std.proofs.lemmas.Option.{slice_get-map, slice_get_read}
use Rattle.std.specs.Borrow.{Bor}
use Rattle.std.specs.Prelude.{Some, option_map, slice_get}
use Rattle.lint_base.proofs.Lists.{every_at}
use Rattle.lint_core.specs.declared.condition.Cond.{Cond}
use Rattle.sort_formula.specs.declared.formula.Formula.{Formula}
use Rattle.sort_formula.specs.Translation.{is_true_formula}
use Rattle.sql_meaning.specs.Behind.{behind}
use Rattle.truth_formula.specs.Scopes.{CanStand}
use Rattle.error_reductions.proofs.Conjuncts.{one_more}
use Rattle.error_reductions.proofs.joins.each_true.Goals as goal

pub is_true-requires : goal.is_true-requires
is_true-requires c =
    let conds = c.args.conds.now in
    let i = c.loop-cond.cond-index in
    let at : slice_get (behind conds) i ≡ Some c.cond-item.result.now =
    slice_get-map (λ (r : Bor Cond). r.now) conds i ∙ ap (option_map (λ (r : Bor Cond). r.now)) (slice_get_read conds (length conds) i c.cond-item.result refl c.loop-cond-test.true c.cond-item.is)
    in
    every_at (λ (k : Cond). CanStand c.args.schema.now k c.args.scope.now) (behind conds) i c.cond-item.result.now c.requires at

pub loop-cond-preserved : goal.loop-cond-preserved
loop-cond-preserved c =
    let formula = λ (k : Cond). is_true_formula c.args.schema.now k c.args.scope.now in
    one_more (λ (r : Bor Cond). r.now) formula c.args.conds.now c.loop-cond.cond-index c.cond-item.result c.loop-cond-test.true c.cond-item.is
    c.loop-cond.parts c.push.new.self (map formula (behind c.args.conds.now)) c.loop-cond.invariant
    (c.in_ok-push.ensures.ok ∙ ap (λ (made : Formula). c.loop-cond.parts ++ made ∷ []) c.in_ok-is_true.ensures.formula)
