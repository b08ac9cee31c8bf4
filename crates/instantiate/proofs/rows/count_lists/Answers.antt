use Rattle.std.proofs.Common.{◌≡◌, ◌∙◌, ◌*◌, ◌-◌, ◌^◌, ap, min, length, arith, List, ℕ}
use Rattle.std.proofs.lemmas.List.{drop_all}
use Rattle.sorted_skolem.specs.Terms.{term_lists}
use Rattle.instantiate.proofs.TermLists.{count_step}
use Rattle.instantiate.proofs.rows.count_lists.Goals as goal

pub loop-table-init : goal.loop-table-init
loop-table-init c = record {
  within = omega arith;
  whole = (let one : (n : ℕ) → 1 * n ≡ n = λ n. omega arith in ap (λ n. min n (2 ^ 64 - 1)) (one (length (term_lists c.args.terms.now c.args.tables.now))));
}

pub loop-table-preserved : goal.loop-table-preserved
loop-table-preserved c =
    let terms = c.args.terms.now in
    let tables = c.args.tables.now in
    let i = c.loop-table.table-index in
    let fits = c.saturating_mul-count.type_inv in
    record {
      within = omega arith;
      whole = count_step (2 ^ 64 - 1) terms tables i c.loop-table.count c.saturating_mul-count.result c.loop-table-test.true
          (c.saturating_mul-count.ensures ∙ ap (λ n. min (c.loop-table.count * n) (2 ^ 64 - 1)) c.count_of_table.ensures)
          ∙ c.loop-table.invariant.whole;
    }

pub returns : goal.returns
returns c =
    let inv = c.loop-table.invariant.whole in
    let within = c.loop-table.invariant.within in
    let none = drop_all c.loop-table.table-index c.args.tables.now c.loop-table-test.false in
    let last = ap (λ (tables : List ℕ). min (c.loop-table.count * length (term_lists c.args.terms.now tables)) (2 ^ 64 - 1)) none in
    omega arith
