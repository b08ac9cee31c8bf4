use Rattle.std.proofs.Common.{◌≡◌, ◌∙◌, ap, sym, subst, length, map, OnOk, List, suc, arith, add-one}
use Rattle.std.specs.Prelude.{if◌then◌else◌}
use Rattle.sorted_skolem.specs.Preorder.{Node}
use Rattle.instantiate.specs.inner.Flat.{node_of, quantifier_of}
use Rattle.instantiate.proofs.Outlining.{and_then, or_then, exists_then, forall_then, longer, rest_room, ways_more, part_more}
use Rattle.instantiate.proofs.outline.+nodes.Goals as goal
use Rattle.instantiate.proofs.outline.+nodes.Goals.{add_parts-then-is_or, add_parts-else-is_or}

pub add_nodes-returns-in-And : goal.add_nodes-returns-in-And
add_nodes-returns-in-And t c =
    subst (λ (list : List Node). OnOk c.add_parts.result (map node_of c.add_parts.new.found ≡ list))
    (and_then c.args.found.now c.push.new.self _ c.args.around.now c.in_ok-copied.ensures c.in_ok-push.ensures.ok (length c.as_slice.result.now) c.as_slice-in-And.result.now c.in-And.parts
    (ap length c.as_slice.ensures) c.as_slice-in-And.ensures c.in-And.is)
    c.add_parts.ensures

pub add_nodes-returns-in-Or : goal.add_nodes-returns-in-Or
add_nodes-returns-in-Or t c =
    subst (λ (list : List Node). OnOk c.add_parts-in-Or.result (map node_of c.add_parts-in-Or.new.found ≡ list))
    (or_then c.args.found.now c.push.new.self _ c.args.around.now c.in_ok-copied.ensures c.in_ok-push.ensures.ok (length c.as_slice.result.now) c.as_slice-in-Or.result.now c.in-Or.parts
    (ap length c.as_slice.ensures) c.as_slice-in-Or.ensures c.in-Or.is)
    c.add_parts-in-Or.ensures

pub add_nodes-returns-in-Exists : goal.add_nodes-returns-in-Exists
add_nodes-returns-in-Exists t c =
    subst (λ (list : List Node). OnOk c.add_inside.result (map node_of c.add_inside.new.found ≡ list))
    (exists_then c.args.found.now c.push.new.self _ c.args.around.now c.in_ok-copied.ensures c.in_ok-push.ensures.ok (length c.as_slice.result.now) c.in-Exists.table c.get.result.now _
    (ap length c.as_slice.ensures) c.get.ensures c.in-Exists.is)
    c.add_inside.ensures

pub add_nodes-returns-in-Forall : goal.add_nodes-returns-in-Forall
add_nodes-returns-in-Forall t c =
    subst (λ (list : List Node). OnOk c.add_inside-in-Forall.result (map node_of c.add_inside-in-Forall.new.found ≡ list))
    (forall_then c.args.found.now c.push.new.self _ c.args.around.now c.in_ok-copied.ensures c.in_ok-push.ensures.ok (length c.as_slice.result.now) c.in-Forall.table c.get-in-Forall.result.now _
    (ap length c.as_slice.ensures) c.get-in-Forall.ensures c.in-Forall.is)
    c.add_inside-in-Forall.ensures

pub add_parts-loop-part-preserved : goal.add_parts-loop-part-preserved
add_parts-loop-part-preserved t c =
    let inv = c.loop-part.invariant in
    let next : c.if-is_or.way' ≡ (if c.args.is_or then suc c.loop-part.way else c.loop-part.way) =
    elim c.if-is_or.branch [
      | add_parts-then-is_or w ↦ w.way'-is ∙ (add-one c.loop-part.way ∙ ap (λ b. if b then suc c.loop-part.way else c.loop-part.way) (sym w.if-is_or.true))
      | add_parts-else-is_or w ↦ w.way'-is ∙ ap (λ b. if b then suc c.loop-part.way else c.loop-part.way) (sym w.if-is_or.false)
    ] in
    let size = longer c.loop-part.found c.add_nodes.new.found c.args.is_or c.args.node c.loop-part.way c.if-is_or.way' c.loop-part.part-index (map quantifier_of c.args.around.now) c.args.parts.now c.part-item.result
    c.loop-part-test.true c.part-item.is c.in_ok-add_nodes.ensures next in
    let room = rest_room c.loop-part.found c.add_nodes.new.found c.args.is_or c.args.node c.loop-part.way c.if-is_or.way' c.loop-part.part-index (map quantifier_of c.args.around.now) c.args.parts.now c.part-item.result
    c.loop-part-test.true c.part-item.is c.in_ok-add_nodes.ensures next in
    let before = inv.room in
    record {
      room = omega arith;
      ways = ways_more c.loop-part.found c.add_nodes.new.found c.args.is_or c.args.node c.loop-part.way c.if-is_or.way' c.loop-part.part-index (map quantifier_of c.args.around.now) c.args.parts.now c.part-item.result
          c.loop-part-test.true c.part-item.is c.in_ok-add_nodes.ensures next inv.ways;
      made = part_more c.loop-part.found c.add_nodes.new.found c.args.is_or c.args.node c.loop-part.way c.if-is_or.way' c.loop-part.part-index (map quantifier_of c.args.around.now) c.args.parts.now c.part-item.result
          c.loop-part-test.true c.part-item.is c.in_ok-add_nodes.ensures next
          ∙ inv.made;
    }
