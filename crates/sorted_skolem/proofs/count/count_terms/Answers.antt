use Rattle.std.proofs.Common.{◌≡◌, ◌∙◌, sym, ap, subst, ◌+◌, ◌++◌, ◌∷◌, [], List, length, take, get_or}
use Rattle.std.specs.List.{flat_map}
use Rattle.sorted_skolem.specs.declared.count.Tally.{Tally}
use Rattle.sorted_skolem.specs.declared.term.RowTerm.{RowTerm}
use Rattle.sorted_skolem.specs.inner.Listing.{capped, asks_tallied, terms_where, terms_by}
use Rattle.sorted_skolem.proofs.Steps.{get_number, take_next}
use Rattle.sorted_skolem.proofs.Tallying.{AreTallied, by_last, tallied_more, total_more}
use Rattle.sorted_skolem.proofs.count.count_terms.Goals as goal

pub loop-table-preserved : goal.loop-table-preserved
loop-table-preserved c =
    let asks = c.args.asks.now in
    let tables = c.args.tables.now in
    let i = c.loop-table.table-index in
    let table = get_or tables i 0 in
    let tallies = c.loop-table.tallies.items in
    let count = c.count_of_table-count.result in
    let terms = terms_by asks [] (take i tables) in
    let inv = c.loop-table.invariant in
    let counted : count ≡ capped (asks_tallied tallies table asks) = c.count_of_table-count.ensures ∙ ap (λ (ts : List Tally). capped (asks_tallied ts table asks)) c.deref.ensures.value in
    let more : terms_by asks [] (take (i + 1) tables) ≡ terms ++ flat_map (terms_where terms table) asks =
    ap (terms_by asks []) (take_next tables i table (get_number tables i c.loop-table-test.true)) ∙ by_last asks [] (take i tables) table in
    record {
      tallied = subst (λ (ts : List Tally). AreTallied ts (terms_by asks [] (take (i + 1) tables))) (sym c.in_ok-push.ensures.items)
          (subst (AreTallied (tallies ++ record { table = table; count = count } ∷ [])) (sym more) (tallied_more tallies terms asks table count inv.tallied counted));
      total = c.saturating_add-total.ensures
          ∙ (ap (λ n. capped (c.loop-table.total + n)) counted
          ∙ (total_more tallies terms asks table c.loop-table.total inv.tallied inv.total ∙ ap (λ (ts : List RowTerm). capped (length ts)) (sym more)));
    }
