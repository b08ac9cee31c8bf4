use Rattle.std.proofs.Common.{◌≡◌, ◌∙◌, sym, ap, List, ℕ, length}
use Rattle.std.specs.Prelude.{None, Some, option_map, slice_get}
use Rattle.lint_base.proofs.Lists.{below_true}
use Rattle.lint_core.specs.Asked.{main_condition, not_ins_of}
use Rattle.lint_core.specs.Subqueries.{not_in_subqueries}
use Rattle.sql_meaning.specs.Answered.{subquery_of}
use Rattle.error_reductions.proofs.SubqueryRows.{is_there}
use Rattle.error_reductions.proofs.subqueries.selects_null.Goals as goal

pub selects_null_of-requires : goal.selects_null_of-requires
selects_null_of-requires c =
    let query = c.args.query.now in
    let sub = subquery_of c.in-Some.found in
    let at : slice_get (not_ins_of query) c.args.sub ≡ Some sub =
    ap (λ (tables : List (List ℕ)). slice_get (not_in_subqueries (main_condition query) tables) c.args.sub) (sym (c.as_slice.ensures ∙ c.in_ok-levels.ensures))
    ∙ (sym c.in_ok-found.ensures.listed ∙ ap (option_map subquery_of) c.in-Some.is)
    in
    c.asked_sentences_have_room.ensures.not_in c.args.schema.now query c.args.sub sub c.requires.fits at

pub unreachable-requires : goal.unreachable-requires
unreachable-requires c =
    let query = c.args.query.now in
    let none : None ≡ slice_get (not_ins_of query) c.args.sub =
    sym (ap (option_map subquery_of) c.in-None.is)
    ∙ (c.in_ok-found.ensures.listed ∙ ap (λ (tables : List (List ℕ)). slice_get (not_in_subqueries (main_condition query) tables) c.args.sub) (c.as_slice.ensures ∙ c.in_ok-levels.ensures))
    in
    is_there (not_ins_of query) c.args.sub (below_true c.args.sub (length (not_ins_of query)) c.requires.asked) none
