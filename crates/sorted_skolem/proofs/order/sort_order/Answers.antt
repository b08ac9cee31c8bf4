use Rattle.std.proofs.Common.{rules, ◌≡◌, ◌∙◌, sym, ap, ap₂, subst, ◌<◌, ◌+◌, ◌++◌, ℕ, List, true, length, arith}
use Rattle.std.specs.List.{filter, flat_map}
use Rattle.std.specs.Prelude.{◌↔◌, is_none, is_some, IsSome}
use Rattle.sorted_skolem.specs.declared.asks.Ask.{Ask}
use Rattle.sorted_skolem.specs.declared.edges.Edge.{Edge}
use Rattle.sorted_skolem.specs.Graph.{IsOrder}
use Rattle.sorted_skolem.specs.inner.Waiting.{has, IsWanted, edges_at, source_of, IsRound}
use Rattle.sorted_skolem.proofs.Sorting.{IsSorting, start_known, sorting_none, sorting_more, all_blocked, rounds, sorted, layer_fewer}
use Rattle.sorted_skolem.proofs.Steps.{no_elements}
use Rattle.sorted_skolem.proofs.order.sort_order.Goals as goal

abbrev ready_of : List Edge → List ℕ → List ℕ
ready_of edges waiting = filter (λ table. is_none (source_of edges waiting table)) waiting

abbrev blocked_of : List Edge → List ℕ → List ℕ
blocked_of edges waiting = filter (λ table. is_some (source_of edges waiting table)) waiting

pub loop-alloc-init : goal.loop-alloc-init
loop-alloc-init c =
    let asks = c.in_ok-asks.asks.items in
    let waiting = c.in_ok-waiting.waiting.items in
    let live : (table : ℕ) → (has waiting table ≡ true) ↔ IsWanted asks table =
    subst (λ (all : List Ask). (table : ℕ) → (has waiting table ≡ true) ↔ IsWanted all table) c.deref.ensures.value c.in_ok-waiting.ensures.live in
    let edges : c.in_ok-edges.edges.items ≡ flat_map (edges_at waiting) asks =
    c.in_ok-edges.ensures ∙ ap₂ (λ live all. flat_map (edges_at live) all) c.deref-3.ensures.value c.deref-2.ensures.value in
    let known = start_known c.args.sentences.now asks waiting c.in_ok-edges.edges.items c.in_ok-asks.ensures live edges in
    record {
      known = known;
      sorting = subst (λ (ts : List ℕ). IsSorting c.args.sentences.now ts waiting) (sym c.new-tables.ensures.items)
          (sorting_none c.args.sentences.now waiting c.in_ok-edges.edges.items known c.in_ok-waiting.ensures.rises);
    }

pub round-requires-clause-stuck : goal.round-requires-clause-stuck
round-requires-clause-stuck c =
    let inv = c.loop-alloc.invariant in
    let edges = c.in_ok-edges.edges.items in
    let waiting = c.loop-alloc.waiting.items in
    let layer : c.in_ok-layer.layer.items ≡ ready_of edges waiting = c.in_ok-layer.ensures ∙ ap₂ ready_of c.deref-in-loop-alloc.ensures.value c.deref-in-loop-alloc-2.ensures.value in
    let none : length c.in_ok-layer.layer.items ≡ 0 = search rules in
    let stuck = all_blocked c.args.sentences.now c.in_ok-waiting.waiting.items edges inv.known c.loop-alloc.tables.items waiting inv.sorting (sym layer ∙ no_elements c.in_ok-layer.layer.items none) in
    subst (λ (es : List Edge). (table : ℕ) → has c.deref-then-is_empty-2.result.now table ≡ true → IsSome (source_of es c.deref-then-is_empty-2.result.now table)) (sym c.deref-then-is_empty.ensures.value)
    (subst (λ (ws : List ℕ). (table : ℕ) → has ws table ≡ true → IsSome (source_of edges ws table)) (sym c.deref-then-is_empty-2.ensures.value) stuck)

pub returns-then-is_empty-clause-cycle : goal.returns-then-is_empty-clause-cycle
returns-then-is_empty-clause-cycle c =
    let inv = c.loop-alloc.invariant in
    let edges = c.in_ok-edges.edges.items in
    record {
      closed = rounds c.args.sentences.now c.in_ok-waiting.waiting.items edges inv.known c.loop-alloc.tables.items c.loop-alloc.waiting.items inv.sorting c.in_ok-tables.tables
          (subst (λ (es : List Edge). IsRound es c.in_ok-tables.tables) c.deref-then-is_empty.ensures.value c.in_ok-tables.ensures.closed);
      simple = c.in_ok-tables.ensures.simple;
    }

pub loop-alloc-smaller : goal.loop-alloc-smaller
loop-alloc-smaller c =
    let edges = c.in_ok-edges.edges.items in
    let waiting = c.loop-alloc.waiting.items in
    let layer : length c.in_ok-layer.layer.items ≡ length (ready_of edges waiting) =
    ap length (c.in_ok-layer.ensures ∙ ap₂ ready_of c.deref-in-loop-alloc.ensures.value c.deref-in-loop-alloc-2.ensures.value) in
    let rest : length c.in_ok-waiting-2.waiting.items ≡ length (blocked_of edges waiting) =
    ap length (c.in_ok-waiting-2.ensures ∙ ap₂ blocked_of c.deref-in-loop-alloc-4.ensures.value c.deref-in-loop-alloc-5.ensures.value) in
    let all : length (ready_of edges waiting) + length (blocked_of edges waiting) ≡ length waiting = layer_fewer edges waiting waiting in
    let some : 0 < length c.in_ok-layer.layer.items = search rules in
    let fewer : length c.in_ok-waiting-2.waiting.items < length waiting = omega arith in
    fewer

pub loop-alloc-preserved : goal.loop-alloc-preserved
loop-alloc-preserved c =
    let inv = c.loop-alloc.invariant in
    let edges = c.in_ok-edges.edges.items in
    let waiting = c.loop-alloc.waiting.items in
    let tables = c.loop-alloc.tables.items in
    let layer : c.in_ok-layer.layer.items ≡ ready_of edges waiting = c.in_ok-layer.ensures ∙ ap₂ ready_of c.deref-in-loop-alloc.ensures.value c.deref-in-loop-alloc-2.ensures.value in
    let rest : c.in_ok-waiting-2.waiting.items ≡ blocked_of edges waiting = c.in_ok-waiting-2.ensures ∙ ap₂ blocked_of c.deref-in-loop-alloc-4.ensures.value c.deref-in-loop-alloc-5.ensures.value in
    let more : c.extend_from_slice.new.self.items ≡ tables ++ ready_of edges waiting =
    c.in_ok-extend_from_slice.ensures.items ∙ ap (λ (ts : List ℕ). tables ++ ts) (c.deref-in-loop-alloc-3.ensures.value ∙ layer) in
    record {
      known = inv.known;
      sorting = subst (λ (ts : List ℕ). IsSorting c.args.sentences.now ts c.in_ok-waiting-2.waiting.items) (sym more)
          (subst (IsSorting c.args.sentences.now (tables ++ ready_of edges waiting)) (sym rest)
          (sorting_more c.args.sentences.now c.in_ok-waiting.waiting.items edges inv.known tables waiting inv.sorting));
    }

pub returns-clause-order : goal.returns-clause-order
returns-clause-order c =
    let none : length c.loop-alloc.waiting.items ≡ 0 = search rules in
    subst (IsOrder c.args.sentences.now) (sym c.from_vec.ensures)
    (sorted c.args.sentences.now c.loop-alloc.tables.items
    (subst (IsSorting c.args.sentences.now c.loop-alloc.tables.items) (no_elements c.loop-alloc.waiting.items none) c.loop-alloc.invariant.sorting))
