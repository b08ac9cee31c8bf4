use Rattle.std.proofs.Common.{◌≡◌, ◌∙◌, sym, ap, ap₂, subst, ◌+◌, ◌++◌, ℕ, List, map, drop, arith}
use Rattle.std.specs.Prelude.{OnOk}
use Rattle.sorted_skolem.specs.declared.asks.Ask.{Ask}
use Rattle.sorted_skolem.specs.inner.Asks.{told, sizes, parts_asks}
use Rattle.sorted_skolem.proofs.Steps.{get_some}
use Rattle.sorted_skolem.proofs.Telling.{told_parts, size_forall, next_asks, next_size}
use Rattle.sorted_skolem.proofs.asks.Walk.+walk.Goals as goal

pub formula-returns-in_ok-formula-in-Forall-clause-node : goal.formula-returns-in_ok-formula-in-Forall-clause-node
formula-returns-in_ok-formula-in-Forall-clause-node t c =
    let sentence : ℕ = c.args.self.now.sentence in
    let next : c.next.new.self.node ≡ c.args.self.now.node + 1 = c.in_ok-node.ensures.node in
    let inside = c.in_ok-formula-in-Forall.ensures.node in
    let body : (told c.next.new.self.sentence c.get-in-Forall.result.now).size ≡ (told sentence c.in-Forall.body).size =
    ap₂ (λ s g. (told s g).size) c.next.ensures.sentence c.get-in-Forall.ensures in
    let whole : (told sentence c.args.formula.now).size ≡ 1 + (told sentence c.in-Forall.body).size =
    ap (λ g. (told sentence g).size) c.in-Forall.is ∙ size_forall sentence c.in-Forall.table c.in-Forall.body in
    omega arith

pub formula-returns-in-And-clause-asks : goal.formula-returns-in-And-clause-asks
formula-returns-in-And-clause-asks t c =
    let sentence : ℕ = c.args.self.now.sentence in
    let start : List Ask = c.args.self.now.asks.items in
    let whole = (told_parts sentence c.args.formula.now c.in-And.parts c.in-And.is).1 c.args.self.now.node c.args.self.now.foralls.items in
    let node : c.next.new.self.node ≡ c.args.self.now.node + 1 = c.in_ok-node.ensures.node in
    let foralls : c.next.new.self.foralls.items ≡ c.args.self.now.foralls.items = c.next.ensures.foralls in
    let same : c.next.new.self.sentence ≡ sentence = c.next.ensures.sentence in
    let asks : c.next.new.self.asks.items ≡ start = c.next.ensures.asks in
    let parts : c.as_slice.result.now ≡ c.in-And.parts = c.as_slice.ensures in
    let is : c.next.new.self.asks.items ++ parts_asks c.next.new.self.node c.next.new.self.foralls.items (map (told c.next.new.self.sentence) c.as_slice.result.now)
    ≡ start ++ (told sentence c.args.formula.now).asks c.args.self.now.node c.args.self.now.foralls.items = cc in
    subst (λ (all : List Ask). OnOk c.parts.result (c.parts.new.self.asks.items ≡ all)) is c.parts.ensures.asks

pub formula-returns-in-And-clause-node : goal.formula-returns-in-And-clause-node
formula-returns-in-And-clause-node t c =
    let sentence : ℕ = c.args.self.now.sentence in
    let whole = (told_parts sentence c.args.formula.now c.in-And.parts c.in-And.is).0 in
    let node : c.next.new.self.node ≡ c.args.self.now.node + 1 = c.in_ok-node.ensures.node in
    let parts : sizes (map (told c.next.new.self.sentence) c.as_slice.result.now) ≡ sizes (map (told sentence) c.in-And.parts) =
    ap₂ (λ s gs. sizes (map (told s) gs)) c.next.ensures.sentence c.as_slice.ensures in
    let is : c.next.new.self.node + sizes (map (told c.next.new.self.sentence) c.as_slice.result.now) ≡ c.args.self.now.node + (told sentence c.args.formula.now).size = omega arith in
    subst (λ (all : ℕ). OnOk c.parts.result (c.parts.new.self.node ≡ all)) is c.parts.ensures.node

pub parts-loop-part-preserved : goal.parts-loop-part-preserved
parts-loop-part-preserved t c =
    let inv = c.loop-part.invariant in
    let sentence : ℕ = c.loop-part.self.sentence in
    let parts = c.args.parts.now in
    let at = get_some parts c.loop-part.part-index c.part-item.result c.loop-part-test.true c.part-item.is in
    let same : c.formula.new.self.sentence ≡ sentence = c.formula.ensures.sentence in
    let rest = drop (c.loop-part.part-index + 1) parts in
    record {
      asks = subst (λ s. c.formula.new.self.asks.items ++ parts_asks c.formula.new.self.node c.formula.new.self.foralls.items (map (told s) rest)
          ≡ c.args.self.now.asks.items ++ parts_asks c.args.self.now.node c.args.self.now.foralls.items (map (told c.args.self.now.sentence) parts)) (sym same)
          (next_asks sentence c.loop-part.self.node c.formula.new.self.node c.loop-part.self.foralls.items c.formula.new.self.foralls.items c.loop-part.self.asks.items c.formula.new.self.asks.items
          _ parts c.loop-part.part-index c.part-item.result at inv.asks c.in_ok-formula.ensures.asks c.in_ok-formula.ensures.node c.in_ok-formula.ensures.foralls);
      node = subst (λ s. c.formula.new.self.node + sizes (map (told s) rest) ≡ c.args.self.now.node + sizes (map (told c.args.self.now.sentence) parts)) (sym same)
          (next_size sentence c.loop-part.self.node c.formula.new.self.node _ parts c.loop-part.part-index c.part-item.result at inv.node c.in_ok-formula.ensures.node);
      sentence = same ∙ inv.sentence;
      foralls = c.in_ok-formula.ensures.foralls ∙ inv.foralls;
    }
