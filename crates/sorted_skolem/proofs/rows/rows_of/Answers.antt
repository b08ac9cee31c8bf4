use Rattle.std.proofs.Common.{◌≡◌, ◌∙◌, sym, ap, ap₂, subst, ◌<◌, ◌≤◌, [], ℕ, List, length, drop, arith}
use Rattle.sorted_skolem.specs.declared.asks.Ask.{Ask}
use Rattle.sorted_skolem.specs.declared.term.RowTerm.{RowTerm}
use Rattle.sorted_skolem.specs.Preorder.{outlines_of}
use Rattle.sorted_skolem.specs.Terms.{row_terms}
use Rattle.sorted_skolem.specs.inner.Listing.{capped, terms_by}
use Rattle.sorted_skolem.proofs.Tallying.{terms_are_by, by_end, by_more}
use Rattle.sorted_skolem.proofs.rows.rows_of.Goals as goal

pub returns-then-count-gt-MOST_ROWS-clause-many : goal.returns-then-count-gt-MOST_ROWS-clause-many
returns-then-count-gt-MOST_ROWS-clause-many c =
    let asks = c.in_ok-asks.asks.items in
    let tables = c.args.order.now.tables in
    let terms : List RowTerm = row_terms (outlines_of c.args.sentences.now) tables in
    let count : c.in_ok-count.count ≡ capped (length terms) =
    c.in_ok-count.ensures
    ∙ (ap₂ (λ (all : List Ask) (ts : List ℕ). capped (length (terms_by all [] ts))) c.deref.ensures.value c.as_slice-tables.ensures
    ∙ ap (λ (ts : List RowTerm). capped (length ts)) (terms_are_by c.args.sentences.now asks tables c.in_ok-asks.ensures)) in
    let above : 512 < c.in_ok-count.count = c.if-count-gt-MOST_ROWS.true in
    record { many = omega arith; counted = count }

pub terms_over-requires : goal.terms_over-requires
terms_over-requires c =
    let asks = c.in_ok-asks.asks.items in
    let tables = c.as_slice-tables.result.now in
    let terms = c.loop-table.terms.items in
    let count : c.in_ok-count.count ≡ capped (length (terms_by asks [] tables)) =
    c.in_ok-count.ensures ∙ ap (λ (all : List Ask). capped (length (terms_by all [] tables))) c.deref.ensures.value in
    let below : c.in_ok-count.count ≤ 512 = c.if-count-gt-MOST_ROWS.false in
    let more : length terms ≤ length (terms_by asks terms (drop c.loop-table.table-index tables)) = by_more asks terms (drop c.loop-table.table-index tables) in
    let whole : length (terms_by asks terms (drop c.loop-table.table-index tables)) ≡ length (terms_by asks [] tables) = ap length c.loop-table.invariant in
    let few : length terms ≤ 512 = omega arith in
    subst (λ (ts : List RowTerm). length ts ≤ 512) (sym c.deref-in-loop-table-2.ensures.value) few

pub returns-clause-rows : goal.returns-clause-rows
returns-clause-rows c =
    let asks = c.in_ok-asks.asks.items in
    let tables = c.as_slice-tables.result.now in
    let end : length tables ≤ c.loop-table.table-index = c.loop-table-test.false in
    c.from_vec.ensures
    ∙ (sym (by_end asks c.loop-table.terms.items tables c.loop-table.table-index end)
    ∙ (c.loop-table.invariant
    ∙ (ap (terms_by asks []) c.as_slice-tables.ensures ∙ terms_are_by c.args.sentences.now asks c.args.order.now.tables c.in_ok-asks.ensures)))
