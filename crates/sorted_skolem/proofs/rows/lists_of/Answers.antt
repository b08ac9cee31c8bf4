use Rattle.std.proofs.Common.{◌≡◌, ◌∙◌, sym, ap, ap₂, ◌+◌, ◌-◌, ◌<◌, ◌∷◌, ℕ, List, length, drop, map, get_or, arith}
use Rattle.std.specs.List.{flat_map}
use Rattle.sorted_skolem.specs.Terms.{term_lists}
use Rattle.sorted_skolem.proofs.Steps.{get_number}
use Rattle.sorted_skolem.proofs.Tallying.{lists_next, no_lists}
use Rattle.sorted_skolem.proofs.rows.lists_of.Goals as goal

pub returns-then-lacks_terms : goal.returns-then-lacks_terms
returns-then-lacks_terms c = c.new-lists.ensures.items ∙ sym (no_lists c.args.terms.now c.args.tables.now (sym c.lacks_terms.ensures ∙ c.if-lacks_terms.true))

pub loop-index-preserved : goal.loop-index-preserved
loop-index-preserved c =
    let terms = c.args.terms.now in
    let tables = c.args.tables.now in
    let i : ℕ = c.loop-index.index - 1 in
    let one : c.loop-index.index ≡ i + 1 = (let some = c.loop-index-test.true in omega arith) in
    let low : i < length tables = (let within = c.loop-index.invariant.within in let some = c.loop-index-test.true in omega arith) in
    let table : ℕ = get_or tables i 0 in
    let lists = c.deref-in-loop-index.ensures.value ∙ (c.loop-index.invariant.lists ∙ ap (λ n. term_lists terms (drop n tables)) one) in
    record {
      within = (let within = c.loop-index.invariant.within in omega arith);
      lists = c.in_ok-lists.ensures
          ∙ (ap₂ (λ (ls : List (List ℕ)) rs. flat_map (λ (row : ℕ). map (λ (rest : List ℕ). row ∷ rest) ls) rs) lists (c.deref.ensures.value ∙ c.in_ok-rows.ensures)
          ∙ sym (lists_next terms tables i table (get_number tables i low)));
    }
