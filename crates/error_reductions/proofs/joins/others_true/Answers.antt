use Rattle.std.proofs.Common.{◌≡◌, ◌∙◌, ◌≤◌, ◌<◌, ◌+◌, ◌-◌, ◌^◌, ℕ, sym, ap, subst, length, map, arith}
use Rattle.std.proofs.lemmas.Result.{IfOk-weaker}
use Rattle.lint_core.specs.declared.condition.Cond.{Cond}
use Rattle.lint_core.specs.declared.scope.Scope.{Scope}
use Rattle.lint_core.specs.Asked.{conjuncts_without, main_condition, main_entries}
use Rattle.lint_core.specs.Conjuncts.{conjuncts}
use Rattle.counter_laws.specs.Joins.{without_formulas}
use Rattle.sort_formula.specs.Counters.{join_scope}
use Rattle.sort_formula.specs.Translation.{is_true_formula}
use Rattle.truth_formula.specs.Scopes.{CanStand}
use Rattle.error_reductions.specs.inner.Stands.{AllStand}
use Rattle.error_reductions.proofs.Conjuncts.{each_of}
use Rattle.error_reductions.proofs.MainScope.{few_entries}
use Rattle.error_reductions.proofs.joins.others_true.Goals as goal

pub entry_count-count-requires : goal.entry_count-count-requires
entry_count-count-requires c = few_entries c.args.schema.now c.args.query.now c.requires.fits

pub join_scope-requires-clause-few : goal.join_scope-requires-clause-few
join_scope-requires-clause-few c = few_entries c.args.schema.now c.args.query.now c.requires.fits

pub conjuncts_true-requires : goal.conjuncts_true-requires
conjuncts_true-requires c =
    let schema = c.args.schema.now in
    let query = c.args.query.now in
    let depth = c.entry_count-count.result - 1 in
    let few = few_entries schema query c.requires.fits in
    let least : length (main_entries query) ≤ depth + 1 = omega (arith, c.entry_count-count.ensures.entries, c.requires.others) in
    let most : depth < 2 ^ 31 = omega (arith, c.entry_count-count.ensures.entries, few) in
    let low : 0 < depth = omega (arith, c.entry_count-count.ensures.entries, c.requires.others) in
    subst (λ (s : Scope). AllStand schema s (conjuncts (main_condition query))) (sym c.in_ok-scope.ensures)
    (each_of (λ (part : Cond). CanStand schema part (join_scope schema query c.args.entry 0 depth)) (conjuncts (main_condition query))
    (λ number part is. c.asked_sentences_have_room.ensures.conjunct schema query number part c.args.entry 0 depth c.requires.fits is c.requires.entry least most low))

pub returns : goal.returns
returns c =
    let schema = c.args.schema.now in
    let query = c.args.query.now in
    let formulas = λ (s : Scope). map (λ (p : Cond). is_true_formula schema p s) (conjuncts_without c.args.entry query) in
    IfOk-weaker c.conjuncts_true.result (λ parts. parts ≡ formulas c.in_ok-scope.scope) (λ parts. parts ≡ without_formulas schema query c.args.entry)
    (λ parts is. is ∙ ap formulas (c.in_ok-scope.ensures ∙ ap (λ (n : ℕ). join_scope schema query c.args.entry 0 (n - 1)) c.entry_count-count.ensures.tables))
    c.conjuncts_true.ensures
