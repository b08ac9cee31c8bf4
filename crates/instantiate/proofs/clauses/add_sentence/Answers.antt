use Rattle.std.proofs.Common.{◌∙◌, ◌+◌, ◌++◌, ap, sym, map, List, ℕ}
use Rattle.std.proofs.lemmas.List.{take-map}
use Rattle.sorted_skolem.specs.Preorder.{Node}
use Rattle.instantiate.specs.declared.spots.Spot.{Spot}
use Rattle.instantiate.specs.inner.Flat.{node_of}
use Rattle.instantiate.specs.inner.Listings.{node_clauses, sentence_clauses}
use Rattle.instantiate.proofs.Adding.{item_at, spot_is, node_more, node_passed, node_empty}
use Rattle.instantiate.proofs.clauses.add_sentence.Goals as goal
use Rattle.instantiate.proofs.clauses.add_sentence.Goals.{then-spot-stage+then-spot-gt0+in_ok-add_node, else-spot-stage, else-spot-stage-via-then-spot-stage+else-spot-gt0, else-spot-stage-via-else-spot-stage}

pub add_node-requires-clause-tables : goal.add_node-requires-clause-tables
add_node-requires-clause-tables c =
    let l = c.args.listing.now in
    c.as_slice-tables.ensures
    ∙ ap (λ (s : Spot). s.tables)
    (spot_is l.order.now l.terms.now c.args.nodes.now c.args.spots.now c.loop-number.number c.index-nodes-number.result c.index-spots-number.result c.requires.spots c.loop-number-test.true c.index-nodes-number.is
    c.index-spots-number.is)

pub loop-number-preserved : goal.loop-number-preserved
loop-number-preserved c =
    let l = c.args.listing.now in
    let stage = c.args.stage in
    let sentence = c.args.sentence in
    let nodes = c.args.nodes.now in
    let n = c.loop-number.number in
    let node = c.index-nodes-number.result in
    let spot = c.index-spots-number.result in
    let before = c.args.clauses.now in
    let now = c.loop-number.clauses in
    let is = spot_is l.order.now l.terms.now nodes c.args.spots.now n node spot c.requires.spots c.loop-number-test.true c.index-nodes-number.is c.index-spots-number.is in
    let at = item_at nodes n node c.loop-number-test.true c.index-nodes-number.is in
    let so_far = c.loop-number.invariant ∙ ap (λ (ns : List Node). before ++ sentence_clauses l stage sentence ns) (sym (take-map node_of n nodes)) in
    let last = ap (λ (ns : List Node). before ++ sentence_clauses l stage sentence ns) (take-map node_of (n + 1) nodes) in
    elim c.if-spot-stage.branch [
      | then-spot-stage+then-spot-gt0+in_ok-add_node w ↦
          w.clauses-is
          ∙ (node_more l stage sentence n (map node_of nodes) (node_of node) at before now w.add_node.new.clauses spot is w.if-spot-stage.true so_far
          (w.in_ok-add_node.ensures ∙ ap (λ (ts : List ℕ). now ++ node_clauses l sentence n ts) w.as_slice-tables.ensures)
          ∙ last)
      | else-spot-stage w ↦
          elim w.else-spot-stage.branch [
            | else-spot-stage-via-then-spot-stage+else-spot-gt0 w' ↦ w.clauses-is ∙ (node_empty l stage sentence n (map node_of nodes) (node_of node) at before now spot is w'.if-spot-gt0.false so_far ∙ last)
            | else-spot-stage-via-else-spot-stage w' ↦ w.clauses-is ∙ (node_passed l stage sentence n (map node_of nodes) (node_of node) at before now spot is w'.if-spot-stage.false so_far ∙ last)
          ]
    ]
