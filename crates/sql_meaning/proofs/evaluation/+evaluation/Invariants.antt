use Rattle.std.proofs.Common.{◌≡◌, ◌+◌, ◌∷◌, ◌++◌, ℕ, List, [], drop, length, map}
use Rattle.std.specs.List.{sum_by}
use Rattle.std.specs.Prelude.{Ok}
use Rattle.lint_core.specs.Condition.{truth}
use Rattle.lint_core.specs.Database.{below}
use Rattle.lint_core.specs.Evaluation.{Evaluated, all_ok, map_ok}
use Rattle.lint_core.specs.Fits.{tables_of}
use Rattle.lint_core.specs.Truth.{and_of, greatest, least, or_of}
use Rattle.lint_core.specs.declared.condition.Block.{out-Block}
use Rattle.lint_core.specs.declared.database.Value.{Value}
use Rattle.sql_meaning.proofs.Weights.{block_weight, weight}
use Rattle.sql_meaning.proofs.evaluation.+evaluation.Given as goal
use Rattle.sql_meaning.specs.inner.Gathered.{gathered, gathered_over, joined}
use Rattle.sql_meaning.specs.inner.Seen.{values_of}
use Rattle.sql_meaning.specs.inner.Standing.{binding_of_levels, tables_of_levels}

abbrev pub decreases-Search::visit : goal.decreases-Search::visit
decreases-Search::visit l = weight (out-Block l.self.now.block.now).cond + length l.rest.now + 2

abbrev pub decreases-Search::visit_rows : goal.decreases-Search::visit_rows
decreases-Search::visit_rows l = weight (out-Block l.self.now.block.now).cond + 1

abbrev pub decreases-all_of : goal.decreases-all_of
decreases-all_of l = sum_by weight l.parts.now + 1

abbrev pub decreases-any_of : goal.decreases-any_of
decreases-any_of l = sum_by weight l.parts.now + 1

abbrev pub decreases-evaluate : goal.decreases-evaluate
decreases-evaluate l = weight l.cond.now

abbrev pub decreases-exists : goal.decreases-exists
decreases-exists l = block_weight l.block.now + 1

abbrev pub decreases-select : goal.decreases-select
decreases-select l = block_weight l.block.now

abbrev pub invariant-Search::visit-loop-row : goal.invariant-Search::visit-loop-row
invariant-Search::visit-loop-row l =
    let at : ℕ → Evaluated (List Value) = λ row. gathered l.self.database.now l.self.item.now (tables_of_levels l.self.outer.now ++ tables_of (out-Block l.self.block.now).entries ∷ []) (binding_of_levels l.self.outer.now) (truth l.self.database.now (out-Block l.self.block.now).cond) (l.initial.rows.items ++ row ∷ []) (tables_of l.others) in
    record {
      rows : l.rows.items ≡ l.initial.rows.items;
      found : joined (Ok (values_of l.found.items)) (gathered_over at (drop l.row (below l.row-end)))
          ≡ joined (Ok (values_of l.initial.found.items)) (gathered_over at (below l.row-end));
    }

abbrev pub invariant-all_of-loop-part : goal.invariant-all_of-loop-part
invariant-all_of-loop-part l =
    let parts_at = map (λ part. truth l.database part (tables_of_levels l.levels) (binding_of_levels l.levels)) in
    map_ok (least l.truth) (map_ok and_of (all_ok (parts_at (drop l.part-index l.parts)))) ≡ map_ok and_of (all_ok (parts_at l.parts))

abbrev pub invariant-any_of-loop-part : goal.invariant-any_of-loop-part
invariant-any_of-loop-part l =
    let parts_at = map (λ part. truth l.database part (tables_of_levels l.levels) (binding_of_levels l.levels)) in
    map_ok (greatest l.truth) (map_ok or_of (all_ok (parts_at (drop l.part-index l.parts)))) ≡ map_ok or_of (all_ok (parts_at l.parts))
