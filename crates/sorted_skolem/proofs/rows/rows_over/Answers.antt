use Rattle.std.proofs.Common.{◌≡◌, ◌∙◌, sym, ap, ap₂, ◌<◌, ◌++◌, ◌∷◌, [], cond, append-nil, length, get_or, arith}
use Rattle.sorted_skolem.specs.declared.term.RowTerm.{RowTerm}
use Rattle.sorted_skolem.proofs.Steps.{get_some}
use Rattle.sorted_skolem.proofs.Tallying.{rows_next, same_tables, other_tables}
use Rattle.sorted_skolem.proofs.rows.rows_over.Goals as goal
use Rattle.sorted_skolem.proofs.rows.rows_over.Goals.{then-terms-row+in_ok-push, else-terms-row}

pub loop-row-preserved : goal.loop-row-preserved
loop-row-preserved c =
    let terms = c.args.terms.now in
    let table = c.args.table in
    let row = c.loop-row.row in
    let term = c.index-terms-row.result in
    let low : row < length terms = omega arith in
    let own : term.table ≡ (get_or terms row term).table = ap (λ (t : RowTerm). t.table) c.index-terms-row.is in
    let next = rows_next terms table row term (get_some terms row term low c.index-terms-row.is) in
    elim c.if-terms-row.branch [
      | then-terms-row+in_ok-push w ↦
          ap (λ v. v.items) w.rows-is
          ∙ (w.in_ok-push.ensures.items ∙ (ap₂ (λ xs b. xs ++ cond b (row ∷ []) []) c.loop-row.invariant (sym (same_tables term.table table (own ∙ w.if-terms-row.true))) ∙ sym next))
      | else-terms-row w ↦
          ap (λ v. v.items) w.rows-is
          ∙ (sym (append-nil c.loop-row.rows.items) ∙ (ap₂ (λ xs b. xs ++ cond b (row ∷ []) []) c.loop-row.invariant (sym (other_tables term.table table (λ same. w.if-terms-row.false (sym own ∙ same)))) ∙ sym next))
    ]
