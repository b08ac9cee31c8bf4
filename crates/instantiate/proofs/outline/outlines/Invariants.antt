use Rattle.std.proofs.Common.{◌≡◌, true, take, map}
use Rattle.std.specs.Prelude.{All}
use Rattle.sort_formula.specs.Sentences.{is_sentence}
use Rattle.sorted_skolem.specs.Preorder.{outlines_of}
use Rattle.instantiate.specs.inner.Flat.{node_of}
use Rattle.instantiate.proofs.outline.outlines.Given as goal

abbrev pub invariant-loop-sentence : goal.invariant-loop-sentence
invariant-loop-sentence l = record {
  nodes : map (map node_of) l.all ≡ outlines_of (take l.sentence-index l.sentences);
  closed : All (λ s. is_sentence s ≡ true) (take l.sentence-index l.sentences);
}
