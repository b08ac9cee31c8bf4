use Rattle.std.proofs.Common.{◌≡◌, ◌∙◌, sym, ap, ap₂, subst, [], ◌∷◌, arith}
use Rattle.std.proofs.lemmas.Result.{IfOk-weaker}
use Rattle.lint_core.specs.declared.scope.Scope.{Scope}
use Rattle.question_truths.specs.Room.{entries_in}
use Rattle.sort_formula.specs.declared.formula.Formula.{Formula}
use Rattle.sort_formula.specs.declared.formula.Formula.TheVariants as f
use Rattle.sort_formula.specs.Counters.{selects_null, sentence_of}
use Rattle.sort_formula.specs.Sides.{all_of, is_null_formula}
use Rattle.sort_formula.specs.Translation.{exist_rows, is_true_formula}
use Rattle.sql_meaning.specs.Answered.{subquery_of}
use Rattle.truth_formula.specs.Scopes.{CanStand}
use Rattle.error_reductions.proofs.SubqueryRows.{alone_is}
use Rattle.error_reductions.proofs.Variables.{entries_are}
use Rattle.error_reductions.proofs.subqueries.selects_null_of.Goals as goal

pub first_scope-requires : goal.first_scope-requires
first_scope-requires c = omega (arith, ap entries_in c.as_slice-tables.ensures, c.requires.room, entries_are c.args.sub.now.tables)

pub is_true-requires : goal.is_true-requires
is_true-requires c =
    let sub = subquery_of c.args.sub.now in
    subst (CanStand c.args.schema.now sub.cond) (sym (alone_is c.args.schema.now sub c.as_slice-tables.result.now c.as_slice-tables.ensures c.in_ok-scope.scope c.in_ok-scope.ensures)) c.requires

pub returns : goal.returns
returns c =
    let schema = c.args.schema.now in
    let sub = subquery_of c.args.sub.now in
    let same = alone_is schema sub c.as_slice-tables.result.now c.as_slice-tables.ensures c.in_ok-scope.scope c.in_ok-scope.ensures in
    let body : c.in_ok-body.body ≡ (selects_null schema sub).body =
    c.in_ok-body.ensures
    ∙ ap₂ (λ (a b : Formula). f.And (a ∷ b ∷ [])) (c.in_ok-chosen.ensures.formula ∙ ap (is_true_formula schema sub.cond) same)
    (c.is_null.ensures schema ∙ ap (λ (s : Scope). is_null_formula schema s sub.item) same)
    in
    let lead : c.as_slice.result.now ≡ all_of sub.tables = c.as_slice.ensures ∙ (c.in_ok-lead.ensures ∙ ap all_of c.as_slice-tables.ensures) in
    IfOk-weaker c.exist_rows.result (λ formula. formula ≡ exist_rows c.as_slice.result.now c.in_ok-body.body) (λ formula. formula ≡ sentence_of (selects_null schema sub))
    (λ formula is. is ∙ ap₂ exist_rows lead body)
    c.exist_rows.ensures
