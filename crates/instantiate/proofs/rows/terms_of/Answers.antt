use Rattle.std.proofs.Common.{◌∙◌, ◌++◌, ◌∷◌, [], ap, sym, List, ℕ}
use Rattle.sorted_skolem.specs.declared.term.RowTerm.{RowTerm}
use Rattle.instantiate.proofs.TermLists.{filter_added, filter_same}
use Rattle.instantiate.proofs.rows.terms_of.Goals as goal
use Rattle.instantiate.proofs.rows.terms_of.Goals.{then-terms-number+in_ok-push, else-terms-number}

pub loop-number-preserved : goal.loop-number-preserved
loop-number-preserved c =
    let inv = c.loop-number.invariant in
    let terms = c.args.terms.now in
    let n = c.loop-number.number in
    let tabled = ap (λ (t : RowTerm). t.table) c.index-terms-number.is in
    elim c.if-terms-number.branch [
      | then-terms-number+in_ok-push w ↦
          w.rows-is ∙ (w.in_ok-push.ensures.ok ∙ (ap (λ (rows : List ℕ). rows ++ n ∷ []) inv
          ∙ sym (filter_added terms c.args.table n c.index-terms-number.result c.loop-number-test.true c.index-terms-number.is (tabled ∙ w.if-terms-number.true))))
      | else-terms-number w ↦
          w.rows-is ∙ (inv ∙ sym (filter_same terms c.args.table n c.index-terms-number.result c.loop-number-test.true c.index-terms-number.is (λ e. w.if-terms-number.false (sym tabled ∙ e))))
    ]
