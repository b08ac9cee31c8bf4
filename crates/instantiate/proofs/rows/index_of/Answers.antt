use Rattle.std.proofs.Common.{◌∙◌, ◌-◌, ◌^◌, ap, refl, min, get_or, length, arith, List, ℕ}
use Rattle.std.proofs.lemmas.List.{drop_all}
use Rattle.std.proofs.lemmas.Option.{slice_get_read, slice_get_past}
use Rattle.instantiate.specs.inner.Steps.{index_along}
use Rattle.instantiate.proofs.TermLists.{index_step, index_some, index_none}
use Rattle.instantiate.proofs.rows.index_of.Goals as goal
use Rattle.instantiate.proofs.rows.index_of.Goals.{in-Some, in-None}

pub loop-row-preserved : goal.loop-row-preserved
loop-row-preserved c =
    let steps = c.args.steps.now in
    let rows = c.args.rows.now in
    let i = c.loop-row.row-index in
    let row = get_or rows i 0 in
    let most = 2 ^ 64 - 1 in
    elim c.match-get.branch [
      | in-Some w ↦
          let there = slice_get_read steps (length steps) row w.in-Some.step.now refl w.in-Some.ensures.lookup.3.0 w.in-Some.ensures.lookup.1 in
          record {
            within = (let a = w.index-is in let b = w.saturating_add-index.type_inv in omega arith);
            whole = index_step most steps rows i row c.loop-row.index c.match-get.index c.loop-row-test.true refl
                (ap (λ n. min n most) w.index-is
                ∙ index_some most steps row c.loop-row.index w.saturating_mul.result w.saturating_add-index.result w.in-Some.step.now there w.saturating_mul.ensures w.saturating_add-index.ensures)
                ∙ c.loop-row.invariant.whole;
          }
      | in-None w ↦
          record {
            within = (let a = w.index-is in omega arith);
            whole = index_step most steps rows i row c.loop-row.index c.match-get.index c.loop-row-test.true refl
                (index_none most steps row c.loop-row.index c.match-get.index (slice_get_past steps row w.in-None.ensures.lookup.3) w.index-is)
                ∙ c.loop-row.invariant.whole;
          }
    ]

pub returns : goal.returns
returns c =
    let inv = c.loop-row.invariant.whole in
    let within = c.loop-row.invariant.within in
    let none = drop_all c.loop-row.row-index c.args.rows.now c.loop-row-test.false in
    let last = ap (λ (rows : List ℕ). min (index_along c.args.steps.now c.loop-row.index rows) (2 ^ 64 - 1)) none in
    omega arith
