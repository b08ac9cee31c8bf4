use Rattle.std.proofs.Common.{◌++◌, ◌∷◌, [], sym, subst, take, List, ℕ}
use Rattle.instantiate.specs.declared.spots.Spot.{Spot}
use Rattle.instantiate.specs.inner.Spots.{AreBases, AreMoved}
use Rattle.instantiate.specs.inner.Bases.{ArePassed, HaveBases}
use Rattle.instantiate.proofs.Counting.{one_more_sentence, passed_more, have_more}
use Rattle.instantiate.proofs.counts.bases.Goals as goal

pub loop-spots-preserved : goal.loop-spots-preserved
loop-spots-preserved c =
    let inv = c.loop-spots.invariant in
    let all = c.args.all.now in
    let i = c.loop-spots.spots-index in
    let spots = c.spots-item.result in
    let next = c.loop-spots.next in
    let own : AreBases next spots c.in_ok-bases_of_sentence.field-0 = subst (λ (ss : List Spot). AreBases next ss c.in_ok-bases_of_sentence.field-0) c.as_slice.ensures c.in_ok-bases_of_sentence.ensures.bases in
    let moved : AreMoved next spots c.bases_of_sentence.new.next = subst (λ (ss : List Spot). AreMoved next ss c.bases_of_sentence.new.next) c.as_slice.ensures c.in_ok-bases_of_sentence.ensures.next in
    let whole = one_more_sentence all i spots c.loop-spots-test.true c.spots-item.is in
    record {
      bases = subst (λ (ss : List (List Spot)). HaveBases c.args.next.now ss c.push.new.self) (sym whole)
          (subst (λ (bs : List (List ℕ)). HaveBases c.args.next.now (take i all ++ spots ∷ []) bs) (sym c.in_ok-push.ensures.ok)
          (have_more c.args.next.now (take i all) spots next c.in_ok-bases_of_sentence.field-0 c.loop-spots.bases inv.next inv.bases own));
      next = subst (λ (ss : List (List Spot)). ArePassed c.args.next.now ss c.bases_of_sentence.new.next) (sym whole)
          (passed_more c.args.next.now (take i all) spots next c.bases_of_sentence.new.next inv.next moved);
    }
