use Rattle.std.proofs.Common.{◌≡◌, ◌∙◌, sym, ap, ◌++◌, [], ℕ, List, append-nil, true, false, Bool, map, cond}
use Rattle.std.specs.List.{list_all}
use Rattle.sorted_skolem.specs.declared.asks.Ask.{Ask}
use Rattle.sorted_skolem.specs.declared.edges.Edge.{Edge}
use Rattle.sorted_skolem.specs.inner.Waiting.{has, edges_at}
use Rattle.sorted_skolem.proofs.Steps.{get_some, flat_next}
use Rattle.sorted_skolem.proofs.edges.edges_of.Goals as goal
use Rattle.sorted_skolem.proofs.edges.edges_of.Goals.{then-are_in+in_ok-push_edges, else-are_in}

given : (live : List ℕ) (ask : Ask) (b : Bool) → list_all (has live) ask.foralls ≡ b → edges_at live ask ≡ cond b (map (λ from. (let e : Edge = record { from = from; to = ask.table } in e)) ask.foralls) []
given live ask b is = ap (λ b. cond b (map (λ from. (let e : Edge = record { from = from; to = ask.table } in e)) ask.foralls) []) is

pub loop-ask-preserved : goal.loop-ask-preserved
loop-ask-preserved c =
    let asks = c.args.asks.now in
    let live = c.args.live.now in
    let ask = c.ask-item.result in
    let at = get_some asks c.loop-ask.ask-index ask c.loop-ask-test.true c.ask-item.is in
    let edges = c.loop-ask.edges.items in
    flat_next (edges_at live) asks c.loop-ask.ask-index ask edges c.if-are_in.edges.items _ at c.loop-ask.invariant
    (elim c.if-are_in.branch [
      | then-are_in+in_ok-push_edges w ↦
          ap (λ v. v.items) w.edges-is
          ∙ (w.in_ok-push_edges.ensures
          ∙ ap (λ es. edges ++ es) (ap (map (λ from. (let e : Edge = record { from = from; to = ask.table } in e))) w.as_slice-then-are_in.ensures
          ∙ sym (given live ask true (ap (list_all (has live)) (sym c.as_slice.ensures) ∙ (sym c.are_in.ensures ∙ w.if-are_in.true)))))
      | else-are_in w ↦
          ap (λ v. v.items) w.edges-is
          ∙ (sym (append-nil edges) ∙ ap (λ es. edges ++ es) (sym (given live ask false (ap (list_all (has live)) (sym c.as_slice.ensures) ∙ (sym c.are_in.ensures ∙ w.if-are_in.false)))))
    ])
