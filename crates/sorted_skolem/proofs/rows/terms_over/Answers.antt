use Rattle.std.proofs.Common.{◌∙◌, sym, ap, ◌++◌, append-nil}
use Rattle.sorted_skolem.specs.inner.Listing.{terms_where}
use Rattle.sorted_skolem.proofs.Steps.{get_some, flat_next}
use Rattle.sorted_skolem.proofs.Tallying.{terms_given, terms_no, same_tables, other_tables}
use Rattle.sorted_skolem.proofs.rows.terms_over.Goals as goal
use Rattle.sorted_skolem.proofs.rows.terms_over.Goals.{then-table-ask+in_ok-push_terms, else-table-ask}

pub loop-ask-preserved : goal.loop-ask-preserved
loop-ask-preserved c =
    let terms = c.args.terms.now in
    let table = c.args.table in
    let ask = c.ask-item.result in
    let more = c.loop-ask.more.items in
    let at = get_some c.args.asks.now c.loop-ask.ask-index ask c.loop-ask-test.true c.ask-item.is in
    flat_next (terms_where terms table) c.args.asks.now c.loop-ask.ask-index ask more c.if-table-ask.more.items _ at c.loop-ask.invariant
    (elim c.if-table-ask.branch [
      | then-table-ask+in_ok-push_terms w ↦
          ap (λ v. v.items) w.more-is ∙ (w.in_ok-push_terms.ensures ∙ ap (λ ts. more ++ ts) (sym (terms_given terms table ask (same_tables table ask.table w.if-table-ask.true))))
      | else-table-ask w ↦
          ap (λ v. v.items) w.more-is ∙ (sym (append-nil more) ∙ ap (λ ts. more ++ ts) (sym (terms_no terms table ask (other_tables table ask.table w.if-table-ask.false))))
    ])
