use Rattle.std.proofs.Common.{◌≡◌, ◌∙◌, sym, ap, map, length, arith, List, ℕ}
use Rattle.std.proofs.lemmas.List.{length-map}
use Rattle.std.specs.Prelude.{Option}
use Rattle.lint_core.specs.declared.database.Database.{Database}
use Rattle.lint_core.specs.Database.{below}
use Rattle.instantiate.specs.Cases.{is_present}
use Rattle.instantiate.proofs.TermLists.{length_below}
use Rattle.witness_db.specs.inner.Placing.{place_at, rows_in}
use Rattle.witness_db.proofs.Places.{is_database, frame_count, frame_range}
use Rattle.witness_db.proofs.rows.place_rows.Goals as goal

pub firsts-requires : goal.firsts-requires
firsts-requires c =
    let problem = c.args.problem.now in
    let n = length problem.rows.terms in
    let count : length c.as_slice-2.result.now ≡ n =
    ap length (c.as_slice-2.ensures ∙ c.in_ok-present.ensures) ∙ (length-map (below n) (is_present problem c.as_slice.result.now) ∙ length_below n) in
    let few = c.requires.limits.few_rows in
    omega arith

pub returns : goal.returns
returns c =
    let schema = c.args.schema.now in
    let problem = c.args.problem.now in
    let a = c.args.branch.now.assignment in
    let firsts = c.as_slice-firsts.result.now in
    let db : Database = record { tables = c.in_ok-rows_by_table.field-0 } in
    let count : length c.as_slice-3.result.now ≡ length problem.frame.domains =
    ap length (c.as_slice-3.ensures ∙ c.tables.ensures.tables) ∙ sym (frame_count schema problem c.requires.problem) in
    is_database schema problem c.requires.problem c.args.branch.now.choices a c.requires.assignment c.as_slice-2.result.now firsts c.in_ok-places_of.field-0 db
    (frame_range problem.frame c.requires.limits.frame_is)
    (c.as_slice-2.ensures ∙ (c.in_ok-present.ensures ∙ ap (λ (choices : List (Option ℕ)). map (is_present problem choices) (below (length problem.rows.terms))) c.as_slice.ensures))
    (c.as_slice-firsts.ensures ∙ c.in_ok-firsts.ensures)
    (c.in_ok-places_of.ensures ∙ ap (λ (ts : List ℕ). map (place_at ts firsts) (below (length ts))) c.as_slice-tables.ensures)
    (c.in_ok-rows_by_table.ensures
    ∙ (ap (λ n. map (rows_in c.as_slice-tables.result.now firsts a) (below n)) count
    ∙ ap (λ (ts : List ℕ). map (rows_in ts firsts a) (below (length problem.frame.domains))) c.as_slice-tables.ensures))
