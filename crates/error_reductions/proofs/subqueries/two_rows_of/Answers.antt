use Rattle.std.proofs.Common.{◌≡◌, ◌∙◌, sym, ap, ap₂, subst, List, ℕ, ◌++◌, length, arith}
use Rattle.std.proofs.lemmas.Result.{IfOk-weaker}
use Rattle.question_truths.specs.Room.{entries_in}
use Rattle.sort_formula.specs.Counters.{last_level, outer_levels, sentence_of, two_rows}
use Rattle.sort_formula.specs.Sides.{all_of}
use Rattle.sort_formula.specs.Translation.{exist_rows}
use Rattle.sql_meaning.specs.Answered.{subquery_of}
use Rattle.truth_formula.specs.Scopes.{CanStand}
use Rattle.error_reductions.proofs.SubqueryRows.{body_is, few_variables, first_is, outer_entries, second_is}
use Rattle.error_reductions.proofs.subqueries.two_rows_of.Goals as goal

-- how many entries the last level has
counted : (tables seen : List (List ℕ)) (own : List ℕ) → seen ≡ tables → own ≡ last_level seen → length own ≡ length (last_level tables)
counted tables seen own same is = ap length (is ∙ ap last_level same)

-- how many stand outside
around : (tables seen outer : List (List ℕ)) → seen ≡ tables → outer ≡ outer_levels seen → entries_in outer ≡ entries_in (outer_levels tables)
around tables seen outer same is = ap entries_in (is ∙ ap outer_levels same)

pub first_scope-requires : goal.first_scope-requires
first_scope-requires c =
    let count = counted c.args.sub.now.tables c.as_slice-tables.result.now c.last_level.result.now c.as_slice-tables.ensures c.last_level.ensures in
    omega (arith, few_variables c.args.schema.now (subquery_of c.args.sub.now) c.requires, count, ap entries_in c.as_slice-tables.ensures)

pub second_scope-requires-clause-outside : goal.second_scope-requires-clause-outside
second_scope-requires-clause-outside c =
    let same = ap (λ (tables : List (List ℕ)). entries_in (outer_levels tables)) c.as_slice-tables.ensures in
    omega (arith, few_variables c.args.schema.now (subquery_of c.args.sub.now) c.requires, same, outer_entries c.args.sub.now.tables)

pub count_entries-first-requires : goal.count_entries-first-requires
count_entries-first-requires c =
    let same = around c.args.sub.now.tables c.as_slice-tables.result.now c.outer_levels.result.now c.as_slice-tables.ensures c.outer_levels.ensures in
    omega (arith, few_variables c.args.schema.now (subquery_of c.args.sub.now) c.requires, same, outer_entries c.args.sub.now.tables)

pub two_rows_body-requires-clause-one : goal.two_rows_body-requires-clause-one
two_rows_body-requires-clause-one c =
    let schema = c.args.schema.now in
    let sub = subquery_of c.args.sub.now in
    let count = counted sub.tables c.as_slice-tables.result.now c.last_level.result.now c.as_slice-tables.ensures c.last_level.ensures in
    subst (CanStand schema sub.cond)
    (sym (first_is schema sub c.as_slice-tables.result.now c.as_slice-tables.ensures (length c.last_level.result.now) count c.in_ok-one.one c.in_ok-one.ensures))
    c.requires.first

pub two_rows_body-requires-clause-two : goal.two_rows_body-requires-clause-two
two_rows_body-requires-clause-two c =
    let schema = c.args.schema.now in
    let sub = subquery_of c.args.sub.now in
    let count = counted sub.tables c.as_slice-tables.result.now c.last_level.result.now c.as_slice-tables.ensures c.last_level.ensures in
    subst (CanStand schema sub.cond)
    (sym (second_is schema sub c.as_slice-tables.result.now c.as_slice-tables.ensures (length c.last_level.result.now) count c.in_ok-two.two c.in_ok-two.ensures))
    c.requires.second

pub two_rows_body-requires-clause-room : goal.two_rows_body-requires-clause-room
two_rows_body-requires-clause-room c =
    let count = counted c.args.sub.now.tables c.as_slice-tables.result.now c.last_level.result.now c.as_slice-tables.ensures c.last_level.ensures in
    let same = around c.args.sub.now.tables c.as_slice-tables.result.now c.outer_levels.result.now c.as_slice-tables.ensures c.outer_levels.ensures in
    let few = few_variables c.args.schema.now (subquery_of c.args.sub.now) c.requires in
    omega (arith, few, count, same, c.count_entries-first.ensures, outer_entries c.args.sub.now.tables)

pub returns : goal.returns
returns c =
    let schema = c.args.schema.now in
    let sub = subquery_of c.args.sub.now in
    let seen = c.as_slice-tables.result.now in
    let same = c.as_slice-tables.ensures in
    let n = length c.last_level.result.now in
    let count = counted sub.tables seen c.last_level.result.now same c.last_level.ensures in
    let outside = c.count_entries-first.ensures ∙ around sub.tables seen c.outer_levels.result.now same c.outer_levels.ensures in
    let body : c.in_ok-body.body ≡ (two_rows schema sub).body =
    c.in_ok-body.ensures
    ∙ body_is schema sub seen same n count c.count_entries-first.result c.in_ok-one.one c.in_ok-two.two outside (first_is schema sub seen same n count c.in_ok-one.one c.in_ok-one.ensures)
    (second_is schema sub seen same n count c.in_ok-two.two c.in_ok-two.ensures)
    in
    let lead : c.as_slice.result.now ≡ (two_rows schema sub).lead = c.as_slice.ensures ∙ (c.in_ok-lead.ensures ∙ ap (λ (tables : List (List ℕ)). all_of tables ++ last_level tables) same) in
    IfOk-weaker c.exist_rows.result (λ formula. formula ≡ exist_rows c.as_slice.result.now c.in_ok-body.body) (λ formula. formula ≡ sentence_of (two_rows schema sub))
    (λ formula is. is ∙ ap₂ exist_rows lead body)
    c.exist_rows.ensures
