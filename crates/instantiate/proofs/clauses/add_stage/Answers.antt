use Rattle.std.proofs.Common.{◌∙◌, ◌++◌, ap, sym, map, List}
use Rattle.std.specs.Prelude.{slice_get}
use Rattle.instantiate.specs.declared.outline.FlatNode.{FlatNode}
use Rattle.instantiate.specs.inner.Flat.{node_of}
use Rattle.instantiate.specs.inner.Listings.{outlines_in, sentence_clauses}
use Rattle.instantiate.specs.inner.Spots.{spot_of}
use Rattle.instantiate.proofs.Adding.{list_at, spots_are, sentences_added}
use Rattle.instantiate.proofs.clauses.add_stage.Goals as goal

pub add_sentence-requires-clause-spots : goal.add_sentence-requires-clause-spots
add_sentence-requires-clause-spots c =
    let l = c.args.listing.now in
    let order = l.order.now in
    let terms = l.terms.now in
    let all = c.as_slice-spots.ensures ∙ (c.requires.spots ∙ ap (λ (os : List (List FlatNode)). map (map (spot_of order terms)) (map (map node_of) os)) (sym c.as_slice-outlines.ensures)) in
    c.as_slice-spots-in-loop-sentence.ensures
    ∙ (spots_are order terms c.as_slice-outlines.result.now c.as_slice-spots.result.now c.loop-sentence.sentence c.index-outlines-sentence.result c.index-spots-sentence.result all c.loop-sentence-test.true
    c.index-outlines-sentence.is c.index-spots-sentence.is
    ∙ ap (λ (ns : List FlatNode). map (spot_of order terms) (map node_of ns)) (sym c.as_slice-nodes.ensures))

pub loop-sentence-preserved : goal.loop-sentence-preserved
loop-sentence-preserved c =
    let l = c.args.listing.now in
    let stage = c.args.stage in
    let s = c.loop-sentence.sentence in
    let nodes = c.index-outlines-sentence.result in
    let at = sym (ap (λ (os : List (List FlatNode)). slice_get (map (map node_of) os) s) c.as_slice-outlines.ensures) ∙ list_at c.as_slice-outlines.result.now s nodes c.loop-sentence-test.true c.index-outlines-sentence.is in
    sentences_added l stage s (outlines_in l) (map node_of nodes) c.args.clauses.now c.loop-sentence.clauses c.add_sentence.new.clauses at c.loop-sentence.invariant
    (c.in_ok-add_sentence.ensures ∙ ap (λ (ns : List FlatNode). c.loop-sentence.clauses ++ sentence_clauses l stage s (map node_of ns)) c.as_slice-nodes.ensures)
