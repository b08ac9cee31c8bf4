use Rattle.std.proofs.Common.{◌≡◌, ◌∙◌, ap, ap₂}
use Rattle.std.proofs.lemmas.Result.{IfOk-weaker}
use Rattle.lint_core.specs.Asked.{main_condition, main_entries}
use Rattle.lint_core.specs.Fits.{tables_of}
use Rattle.lint_core.specs.Predicates.{with_replaced}
use Rattle.sort_formula.specs.Counters.{replaced_counter, sentence_of}
use Rattle.sort_formula.specs.Translation.{exist_rows}
use Rattle.sql_meaning.specs.Replacing.{constant}
use Rattle.error_reductions.specs.inner.Parts.{exactly_one}
use Rattle.error_reductions.proofs.replaced.differs_with.Goals as goal

pub returns : goal.returns
returns c =
    let schema = c.args.schema.now in
    let query = c.args.query.now in
    let replaced = with_replaced (constant c.args.by) c.args.predicate (main_condition query) in
    let body : c.in_ok-body.body ≡ (replaced_counter schema query replaced).body = c.in_ok-body.ensures ∙ ap₂ exactly_one c.in_ok-one.ensures c.in_ok-other.ensures in
    IfOk-weaker c.some_own.result (λ formula. formula ≡ exist_rows (tables_of (main_entries query)) c.in_ok-body.body) (λ formula. formula ≡ sentence_of (replaced_counter schema query replaced))
    (λ formula is. is ∙ ap (exist_rows (tables_of (main_entries query))) body)
    c.some_own.ensures
