use Rattle.std.proofs.Common.{◌≡◌, ◌∷◌, ◌++◌, [], ap, arith}
use Rattle.std.proofs.lemmas.Grind.{common_steps}
use Rattle.std.proofs.lemmas.Result.{err_from_is_err_and}
use Rattle.lint_core.proofs.Conditions.{truth_and, truth_or}
use Rattle.lint_core.specs.Condition.{in_truth, truth}
use Rattle.lint_core.specs.Fits.{tables_of}
use Rattle.sql_meaning.proofs.Gathered.{rows_end, rows_step, rows_stop, select_gives}
use Rattle.sql_meaning.proofs.Steps.{exists_is, in_gives, in_stops, scalar_gives, scalar_stops, scalar_value_stops}
use Rattle.sql_meaning.proofs.evaluation.+evaluation.Goals as goal
use Rattle.sql_meaning.specs.inner.Seen.{value_of, values_of}
use Rattle.sql_meaning.specs.inner.Standing.{binding_of_levels, tables_of_levels}

pub evaluate-returns-in-And : goal.evaluate-returns-in-And
evaluate-returns-in-And t c =
    rw (c.in-And.is, truth_and c.args.database.now c.in-And.parts (tables_of_levels c.args.levels.now) (binding_of_levels c.args.levels.now), ← c.as_slice.ensures)
    c.all_of.ensures

pub evaluate-returns-in-Or : goal.evaluate-returns-in-Or
evaluate-returns-in-Or t c =
    rw (c.in-Or.is, truth_or c.args.database.now c.in-Or.parts (tables_of_levels c.args.levels.now) (binding_of_levels c.args.levels.now), ← c.as_slice-in-Or.ensures)
    c.any_of.ensures

pub evaluate-returns-in-Exists : goal.evaluate-returns-in-Exists
evaluate-returns-in-Exists t c =
    rw (c.in-Exists.is, exists_is c.args.database.now c.in-Exists.block (tables_of_levels c.args.levels.now) (binding_of_levels c.args.levels.now) c.in-Exists.span, ← c.get-in-Exists.ensures)
    c.exists.ensures

pub evaluate-returns-in_err-items-in-In : goal.evaluate-returns-in_err-items-in-In
evaluate-returns-in_err-items-in-In t c =
    let p = err_from_is_err_and c.from_residual-in_err-items-in-In.result c.from_residual-in_err-items-in-In.ensures.1 in
    rw (p.1, p.2)
    (in_stops c.args.database.now c.in-In.block (tables_of_levels c.args.levels.now) (binding_of_levels c.args.levels.now)
    c.args.cond.now c.in-In.term c.in-In.item c.in-In.negated c.in-In.span _ c.in-In.is (rw (← c.get-in-In.ensures) c.in_err-items-in-In.ensures))

pub evaluate-returns-in_ok-items-in-In : goal.evaluate-returns-in_ok-items-in-In
evaluate-returns-in_ok-items-in-In t c =
    let items = values_of c.in_ok-items-in-In.items.items in
    let found : c.is_in.result ≡ in_truth (value_of c.term_value-left.result) items = rw (← c.as_slice-in-In.ensures.value) c.is_in.ensures in
    in_gives c.args.database.now c.in-In.block (tables_of_levels c.args.levels.now) (binding_of_levels c.args.levels.now)
    c.args.cond.now c.in-In.term c.in-In.item c.in-In.negated c.in-In.span items (value_of c.term_value-left.result) c.is_in.result c.negated_if-in-In.result
    c.in-In.is (rw (← c.get-in-In.ensures) c.in_ok-items-in-In.ensures) c.term_value-left.ensures found c.negated_if-in-In.ensures

pub evaluate-returns-in_err-items-in-Scalar : goal.evaluate-returns-in_err-items-in-Scalar
evaluate-returns-in_err-items-in-Scalar t c =
    let p = err_from_is_err_and c.from_residual-in_err-items-in-Scalar.result c.from_residual-in_err-items-in-Scalar.ensures.1 in
    rw (p.1, p.2)
    (scalar_stops c.args.database.now c.in-Scalar.block (tables_of_levels c.args.levels.now) (binding_of_levels c.args.levels.now)
    c.args.cond.now c.in-Scalar.op c.in-Scalar.left c.in-Scalar.item c.in-Scalar.span _ c.in-Scalar.is (rw (← c.get-in-Scalar.ensures) c.in_err-items-in-Scalar.ensures))

pub evaluate-returns-in_err-value-in-Scalar : goal.evaluate-returns-in_err-value-in-Scalar
evaluate-returns-in_err-value-in-Scalar t c =
    let p = err_from_is_err_and c.from_residual-in_err-value-in-Scalar.result c.from_residual-in_err-value-in-Scalar.ensures.1 in
    rw (p.1, p.2)
    (scalar_value_stops c.args.database.now c.in-Scalar.block (tables_of_levels c.args.levels.now) (binding_of_levels c.args.levels.now)
    c.args.cond.now c.in-Scalar.op c.in-Scalar.left c.in-Scalar.item c.in-Scalar.span (values_of c.in_ok-items-in-Scalar.items.items) _ c.in-Scalar.is
    (rw (← c.get-in-Scalar.ensures) c.in_ok-items-in-Scalar.ensures)
    (rw (← c.get-in-Scalar-2.ensures, ← c.as_slice-in-Scalar.ensures.value) c.in_err-value-in-Scalar.ensures))

pub evaluate-returns-in_ok-value-in-Scalar : goal.evaluate-returns-in_ok-value-in-Scalar
evaluate-returns-in_ok-value-in-Scalar t c =
    scalar_gives c.args.database.now c.in-Scalar.block (tables_of_levels c.args.levels.now) (binding_of_levels c.args.levels.now)
    c.args.cond.now c.in-Scalar.op c.in-Scalar.left c.in-Scalar.item c.in-Scalar.span (values_of c.in_ok-items-in-Scalar.items.items) (value_of c.in_ok-value-in-Scalar.value)
    (value_of c.term_value-in-Scalar.result) c.compare-in-Scalar.result c.in-Scalar.is
    (rw (← c.get-in-Scalar.ensures) c.in_ok-items-in-Scalar.ensures)
    (rw (← c.get-in-Scalar-2.ensures, ← c.as_slice-in-Scalar.ensures.value) c.in_ok-value-in-Scalar.ensures)
    c.term_value-in-Scalar.ensures c.compare-in-Scalar.ensures

pub select-returns : goal.select-returns
select-returns t c =
    select_gives c.args.database.now c.args.item.now c.args.block.now.entries (truth c.args.database.now c.args.block.now.cond)
    (tables_of_levels c.args.outer.now) (binding_of_levels c.args.outer.now) (values_of c.new.result.items) c.new-rows.result.items c.as_slice.result.now _
    (ap values_of c.new.ensures.items) c.new-rows.ensures.items c.as_slice.ensures c.visit.ensures.gives

pub Search::visit-returns-in_default-clause-gives : goal.Search::visit-returns-in_default-clause-gives
Search::visit-returns-in_default-clause-gives t c =
    let is : c.args.rest.now ≡ [] = grind (arith, common_steps) in
    rw (is) (rw (← c.as_slice.ensures.value) c.visit_rows.ensures)

pub Search::visit-returns-clause-gives : goal.Search::visit-returns-clause-gives
Search::visit-returns-clause-gives t c =
    let is : c.args.rest.now ≡ c.in-Some.entry.now ∷ c.in-Some.others.now = grind (arith, common_steps) in
    let same : c.loop-row.row ≡ c.row_count-row-end.result = omega arith in
    rows_end c.args.self.now.database.now c.args.self.now.item.now (tables_of_levels c.args.self.now.outer.now ++ tables_of c.args.self.now.block.now.entries ∷ []) (binding_of_levels c.args.self.now.outer.now)
    (truth c.args.self.now.database.now c.args.self.now.block.now.cond) c.args.rows.now.items c.args.rest.now c.in-Some.entry.now c.in-Some.others.now c.row_count-row-end.result c.loop-row.row
    (values_of c.args.found.items) (values_of c.loop-row.found.items) is c.row_count-row-end.ensures c.loop-row.invariant.found same

pub Search::visit-returns-in_err-found-clause-gives : goal.Search::visit-returns-in_err-found-clause-gives
Search::visit-returns-in_err-found-clause-gives t c =
    let p = err_from_is_err_and c.from_residual-in_err-found.result c.from_residual-in_err-found.ensures.1 in
    let is : c.args.rest.now ≡ c.in-Some.entry.now ∷ c.in-Some.others.now = grind (arith, common_steps) in
    rw (p.1, p.2)
    (rows_stop c.args.self.now.database.now c.args.self.now.item.now (tables_of_levels c.args.self.now.outer.now ++ tables_of c.args.self.now.block.now.entries ∷ []) (binding_of_levels c.args.self.now.outer.now)
    (truth c.args.self.now.database.now c.args.self.now.block.now.cond) c.args.rows.now.items c.args.rest.now c.in-Some.entry.now c.in-Some.others.now c.row_count-row-end.result c.loop-row.row
    (values_of c.args.found.items) (values_of c.loop-row.found.items) is c.row_count-row-end.ensures c.loop-row.invariant.found
    c.loop-row.rows.items c.push.new.self.items c.loop-row-test.true c.loop-row.invariant.rows c.in_ok-push.ensures.items c.in_err-found.field-0.0 c.in_err-found.ensures.gives)

pub Search::visit-loop-row-preserved : goal.Search::visit-loop-row-preserved
Search::visit-loop-row-preserved t c =
    let is : c.args.rest.now ≡ c.in-Some.entry.now ∷ c.in-Some.others.now = grind (arith, common_steps) in
    record {
      rows = grind (arith, common_steps);
      found =
          rows_step c.args.self.now.database.now c.args.self.now.item.now (tables_of_levels c.args.self.now.outer.now ++ tables_of c.args.self.now.block.now.entries ∷ []) (binding_of_levels c.args.self.now.outer.now)
          (truth c.args.self.now.database.now c.args.self.now.block.now.cond) c.args.rows.now.items c.args.rest.now c.in-Some.entry.now c.in-Some.others.now c.row_count-row-end.result c.loop-row.row
          (values_of c.args.found.items) (values_of c.loop-row.found.items) is c.row_count-row-end.ensures c.loop-row.invariant.found
          c.loop-row.rows.items c.push.new.self.items c.loop-row-test.true c.loop-row.invariant.rows c.in_ok-push.ensures.items (values_of c.in_ok-found.found.items) c.in_ok-found.ensures.gives;
    }
