use Rattle.std.proofs.Common.{◌≡◌, ◌∙◌, sym, ap, List, ℕ, length}
use Rattle.std.specs.Prelude.{None, Some, option_map, slice_get}
use Rattle.lint_base.proofs.Lists.{below_true}
use Rattle.lint_core.specs.Asked.{main_condition, scalars_of}
use Rattle.lint_core.specs.Subqueries.{scalar_subqueries}
use Rattle.sql_meaning.specs.Answered.{subquery_of}
use Rattle.error_reductions.proofs.SubqueryRows.{is_there}
use Rattle.error_reductions.proofs.subqueries.two_rows.Goals as goal

pub two_rows_of-requires : goal.two_rows_of-requires
two_rows_of-requires c =
    let schema = c.args.schema.now in
    let query = c.args.query.now in
    let sub = subquery_of c.in-Some.found in
    let at : slice_get (scalars_of query) c.args.sub ≡ Some sub =
    ap (λ (tables : List (List ℕ)). slice_get (scalar_subqueries (main_condition query) tables) c.args.sub) (sym (c.as_slice.ensures ∙ c.in_ok-levels.ensures))
    ∙ (sym c.in_ok-found.ensures.listed ∙ ap (option_map subquery_of) c.in-Some.is)
    in
    let law = c.asked_sentences_have_room.ensures in
    record {
      first = law.first_row schema query c.args.sub sub c.requires.fits at;
      second = law.second_row schema query c.args.sub sub c.requires.fits at;
    }

pub unreachable-requires : goal.unreachable-requires
unreachable-requires c =
    let query = c.args.query.now in
    let none : None ≡ slice_get (scalars_of query) c.args.sub =
    sym (ap (option_map subquery_of) c.in-None.is)
    ∙ (c.in_ok-found.ensures.listed ∙ ap (λ (tables : List (List ℕ)). slice_get (scalar_subqueries (main_condition query) tables) c.args.sub) (c.as_slice.ensures ∙ c.in_ok-levels.ensures))
    in
    is_there (scalars_of query) c.args.sub (below_true c.args.sub (length (scalars_of query)) c.requires.asked) none
