use Rattle.std.proofs.Common.{◌≡◌, ◌∙◌, sym, ap, [], ◌∷◌}
use Rattle.std.proofs.lemmas.Result.{IfOk-weaker}
use Rattle.lint_core.specs.declared.scope.Scope.{Scope}
use Rattle.sort_formula.specs.declared.formula.Formula.{Formula}
use Rattle.sort_formula.specs.Counters.{item_term, not_distinct, scope, sentence_of, where_with}
use Rattle.sort_formula.specs.Negated.{negated}
use Rattle.error_reductions.proofs.MainScope.{columns_alike, few_entries, own_is}
use Rattle.error_reductions.proofs.selected.items_differ.Goals as goal

pub own_scope-requires : goal.own_scope-requires
own_scope-requires c = few_entries c.args.schema.now c.args.query.now c.requires.fits

pub returns : goal.returns
returns c =
    let schema = c.args.schema.now in
    let query = c.args.query.now in
    let a = item_term schema query c.args.item in
    let b = item_term schema query c.args.other in
    let here = c.in_ok-scope.scope in
    let same : here ≡ scope schema query = c.in_ok-scope.ensures ∙ sym (own_is schema query) in
    let alike : c.in_ok-alike.alike ≡ not_distinct schema (scope schema query) a (scope schema query) b =
    c.in_ok-alike.ensures
    ∙ (columns_alike schema here here a b c.item_column-one.result c.item_column-two.result c.item_column-one.ensures c.item_column-two.ensures
    ∙ ap (λ (s : Scope). not_distinct schema s a s b) same)
    in
    let differ : c.in_ok-differ.differ ≡ negated (not_distinct schema (scope schema query) a (scope schema query) b) = c.in_ok-differ.ensures ∙ ap negated alike in
    let sentence = λ (more : Formula). sentence_of (where_with schema query (more ∷ [])) in
    IfOk-weaker c.some_row_with.result (λ formula. formula ≡ sentence c.in_ok-differ.differ) (λ formula. formula ≡ sentence (negated (not_distinct schema (scope schema query) a (scope schema query) b)))
    (λ formula is. is ∙ ap sentence differ)
    c.some_row_with.ensures
