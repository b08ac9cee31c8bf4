use Rattle.std.proofs.Common.{◌≡◌, ◌∙◌, ◌+◌, sym, ap₂, subst, length, arith}
use Rattle.std.proofs.lemmas.Result.{IfOk-weaker}
use Rattle.lint_core.specs.declared.scope.Scope.{Scope}
use Rattle.lint_core.specs.Asked.{main_condition, main_entries}
use Rattle.sort_formula.specs.Counters.{distinct_counter, sentence_of}
use Rattle.sort_formula.specs.Translation.{exist_rows}
use Rattle.truth_formula.specs.Scopes.{CanStand, count_entries}
use Rattle.error_reductions.proofs.MainScope.{few_entries, room_is, twice_is, where_stands}
use Rattle.error_reductions.proofs.distinct.twice_one_row.Goals as goal

pub entry_count-count-requires : goal.entry_count-count-requires
entry_count-count-requires c = few_entries c.args.schema.now c.args.query.now c.requires

pub twice_scope-requires-clause-few : goal.twice_scope-requires-clause-few
twice_scope-requires-clause-few c = few_entries c.args.schema.now c.args.query.now c.requires

pub twice_scope-requires-2-clause-few : goal.twice_scope-requires-2-clause-few
twice_scope-requires-2-clause-few c = few_entries c.args.schema.now c.args.query.now c.requires

pub twice_scope-requires-2-clause-first : goal.twice_scope-requires-2-clause-first
twice_scope-requires-2-clause-first c = omega (arith, few_entries c.args.schema.now c.args.query.now c.requires, c.entry_count-count.ensures.entries)

pub twice_body-requires-clause-one : goal.twice_body-requires-clause-one
twice_body-requires-clause-one c =
    let schema = c.args.schema.now in
    let query = c.args.query.now in
    let cond = main_condition query in
    let depth = length (main_entries query) + length (main_entries query) in
    let few = few_entries schema query c.requires in
    let room = room_is query (count_entries cond) depth few (c.queries_have_room.ensures schema query c.requires) (omega (arith, few)) in
    subst (λ (s : Scope). CanStand schema cond s) (sym c.in_ok-one.ensures)
    (where_stands schema query cond 0 depth (c.parts_of_queries_fit.ensures.condition schema query c.requires) (omega arith) room)

pub twice_body-requires-clause-two : goal.twice_body-requires-clause-two
twice_body-requires-clause-two c =
    let schema = c.args.schema.now in
    let query = c.args.query.now in
    let cond = main_condition query in
    let depth = length (main_entries query) + length (main_entries query) in
    let few = few_entries schema query c.requires in
    let room = room_is query (count_entries cond) depth few (c.queries_have_room.ensures schema query c.requires) (omega (arith, few)) in
    subst (λ (s : Scope). CanStand schema cond s) (sym c.in_ok-two.ensures)
    (where_stands schema query cond c.entry_count-count.result depth (c.parts_of_queries_fit.ensures.condition schema query c.requires) (omega (arith, c.entry_count-count.ensures.entries)) room)

pub twice_body-requires-clause-few : goal.twice_body-requires-clause-few
twice_body-requires-clause-few c = omega (arith, few_entries c.args.schema.now c.args.query.now c.requires, c.entry_count-count.ensures.entries)

pub returns : goal.returns
returns c =
    let schema = c.args.schema.now in
    let query = c.args.query.now in
    let body : c.in_ok-body.body ≡ (distinct_counter schema query).body =
    twice_is schema query c.entry_count-count.result c.in_ok-one.one c.in_ok-two.two c.in_ok-body.body c.entry_count-count.ensures.entries c.in_ok-one.ensures c.in_ok-two.ensures c.in_ok-body.ensures
    in
    IfOk-weaker c.exist_rows.result (λ formula. formula ≡ exist_rows c.as_slice.result.now c.in_ok-body.body) (λ formula. formula ≡ sentence_of (distinct_counter schema query))
    (λ formula is. is ∙ ap₂ exist_rows (c.as_slice.ensures ∙ c.in_ok-lead.ensures) body)
    c.exist_rows.ensures
