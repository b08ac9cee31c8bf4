use Rattle.std.proofs.Common.{rules, ◌≡◌, ◌∙◌, sym, ap, subst, ◌<◌, ◌≤◌, ◌⊎◌, inl, inr, true, false, arith}
use Rattle.std.specs.List.{list_all}
use Rattle.std.specs.Prelude.{Some, slice_get}
use Rattle.sorted_skolem.specs.inner.Waiting.{has, inserted, AreSound, IsClosedAt, missing}
use Rattle.sorted_skolem.proofs.Living.{sound_more, missing_fewer, closed_next, closed_all}
use Rattle.sorted_skolem.proofs.Steps.{get_some}
use Rattle.sorted_skolem.proofs.edges.spread.Goals as goal
use Rattle.sorted_skolem.proofs.edges.spread.Goals.{then-not-contains+then-are_in+in_ok-insert_table, else-not-contains, else-not-contains-via-then-not-contains+else-are_in, else-not-contains-via-else-not-contains}

pub loop-ask-preserved : goal.loop-ask-preserved
loop-ask-preserved c =
    let asks = c.args.asks.now in
    let ask = c.ask-item.result in
    let live = c.loop-ask.live.items in
    let inv = c.loop-ask.invariant in
    let at : slice_get asks c.loop-ask.ask-index ≡ Some ask = get_some asks c.loop-ask.ask-index ask c.loop-ask-test.true c.ask-item.is in
    let there : c.contains.result ≡ has live ask.table = search rules in
    elim c.if-not-contains.branch [
      | then-not-contains+then-are_in+in_ok-insert_table w ↦
          let items : c.if-not-contains.live.items ≡ inserted live ask.table = ap (λ v. v.items) w.live-is ∙ w.in_ok-insert_table.ensures in
          let gone : has live ask.table ≡ false = sym there ∙ w.if-not-contains.true in
          let all : list_all (has live) ask.foralls ≡ true = search rules in
          let fewer : missing asks (inserted live ask.table) < missing asks live = missing_fewer asks live c.loop-ask.ask-index ask at gone in
          let least : missing asks live ≤ missing asks c.args.live.now.items = inv.least in
          let same : missing asks c.if-not-contains.live.items ≡ missing asks (inserted live ask.table) = ap (missing asks) items in
          record {
            sound = subst (AreSound asks) (sym items) (sound_more asks live c.loop-ask.ask-index ask inv.sound at gone all);
            closed = λ quiet. (let more : c.if-not-contains.more ≡ true = w.more-is in cc);
            least = omega arith;
            fewer = λ more. omega arith;
          }
      | else-not-contains w ↦
          let items : c.if-not-contains.live.items ≡ live = ap (λ v. v.items) w.live-is in
          let same : missing asks c.if-not-contains.live.items ≡ missing asks live = ap (missing asks) items in
          let least : missing asks live ≤ missing asks c.args.live.now.items = inv.least in
          let settled : (has live ask.table ≡ true) ⊎ (list_all (has live) ask.foralls ≡ false) =
          (elim w.else-not-contains.branch [
            | else-not-contains-via-then-not-contains+else-are_in w' ↦ inr (search rules)
            | else-not-contains-via-else-not-contains w' ↦ inl (sym there ∙ w'.if-not-contains.false)
          ]) in
          record {
            sound = subst (AreSound asks) (sym items) inv.sound;
            closed = λ quiet place low. subst (λ l. IsClosedAt asks l place) (sym items)
                (closed_next asks live c.loop-ask.ask-index ask at settled (inv.closed (sym w.more-is ∙ quiet)) place low);
            least = omega arith;
            fewer = λ more. (let before : missing asks live < missing asks c.args.live.now.items = inv.fewer (sym w.more-is ∙ more) in omega arith);
          }
    ]

pub returns-clause-closed : goal.returns-clause-closed
returns-clause-closed c = λ quiet. closed_all c.args.asks.now c.loop-ask.live.items (λ place low. c.loop-ask.invariant.closed quiet place (let end = c.loop-ask-test.false in omega arith))
