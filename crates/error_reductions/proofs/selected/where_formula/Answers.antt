use Rattle.std.proofs.Common.{sym, subst, length, arith}
use Rattle.lint_core.specs.declared.scope.Scope.{Scope}
use Rattle.lint_core.specs.Asked.{main_condition, main_entries}
use Rattle.truth_formula.specs.Scopes.{CanStand, count_entries}
use Rattle.error_reductions.proofs.MainScope.{few_entries, room_is, where_stands}
use Rattle.error_reductions.proofs.selected.where_formula.Goals as goal

pub is_true-requires : goal.is_true-requires
is_true-requires c =
    let schema = c.args.schema.now in
    let query = c.args.query.now in
    let cond = main_condition query in
    let depth = length (main_entries query) in
    let few = few_entries schema query c.requires in
    let room = room_is query (count_entries cond) depth few (c.queries_have_room.ensures schema query c.requires) (omega (arith, few)) in
    subst (λ (s : Scope). CanStand schema cond s) (sym c.in_ok-scope.ensures)
    (where_stands schema query cond 0 depth (c.parts_of_queries_fit.ensures.condition schema query c.requires) (omega arith) room)
