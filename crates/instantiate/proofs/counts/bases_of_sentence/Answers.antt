use Rattle.std.proofs.Common.{◌∙◌, ◌++◌, ◌∷◌, [], sym, ap, refl, subst, take, get_or, set, arith, List, ℕ}
use Rattle.instantiate.specs.declared.spots.Spot.{Spot}
use Rattle.instantiate.specs.inner.Spots.{AreBases, AreMoved}
use Rattle.instantiate.proofs.Counting.{one_more_spot, moved_more, moved_none, bases_more}
use Rattle.instantiate.proofs.counts.bases_of_sentence.Goals as goal
use Rattle.instantiate.proofs.counts.bases_of_sentence.Goals.{then-spot-next+in_ok-push, else-spot-next+in_ok-push-2}

pub loop-spot-preserved : goal.loop-spot-preserved
loop-spot-preserved c =
    let inv = c.loop-spot.invariant in
    let old = c.args.next.now in
    let next = c.loop-spot.next in
    let spot = c.spot-item.result in
    let front = take c.loop-spot.spot-index c.args.spots.now in
    let whole = sym (one_more_spot c.args.spots.now c.loop-spot.spot-index spot c.loop-spot-test.true c.spot-item.is) in
    elim c.if-spot-next.branch [
      | then-spot-next+in_ok-push w ↦
          record {
            bases = subst (λ (ss : List Spot). AreBases old ss c.if-spot-next.bases) whole
                (subst (λ (bs : List ℕ). AreBases old (front ++ spot ∷ []) bs) (sym (w.bases-is ∙ w.in_ok-push.ensures.ok))
                (bases_more old front spot next c.loop-spot.bases (get_or next spot.stage 0) inv.next inv.bases (λ low. refl)));
            next = subst (λ (ss : List Spot). AreMoved old ss c.if-spot-next.next) whole
                (subst (λ (n : List ℕ). AreMoved old (front ++ spot ∷ []) n) (sym (w.next-is ∙ ap (set next spot.stage) w.saturating_add.ensures))
                (moved_more old front spot next inv.next w.if-spot-next.true));
          }
      | else-spot-next+in_ok-push-2 w ↦
          record {
            bases = subst (λ (ss : List Spot). AreBases old ss c.if-spot-next.bases) whole
                (subst (λ (bs : List ℕ). AreBases old (front ++ spot ∷ []) bs) (sym (w.bases-is ∙ w.in_ok-push-2.ensures.ok))
                (bases_more old front spot next c.loop-spot.bases 0 inv.next inv.bases (λ low. (let size = inv.next.as_many in let high = w.if-spot-next.false in absurd (omega arith)))));
            next = subst (λ (ss : List Spot). AreMoved old ss c.if-spot-next.next) whole
                (subst (λ (n : List ℕ). AreMoved old (front ++ spot ∷ []) n) (sym w.next-is) (moved_none old front spot next inv.next w.if-spot-next.false));
          }
    ]
