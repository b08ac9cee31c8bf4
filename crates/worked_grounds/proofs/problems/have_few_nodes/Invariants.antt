use Rattle.std.proofs.Common.{◌<◌, ◌^◌, take}
use Rattle.std.specs.Prelude.{All}
use Rattle.sort_formula.specs.Nodes.{nodes}
use Rattle.worked_grounds.proofs.problems.have_few_nodes.Given as goal

-- each so far has few
abbrev pub invariant-loop-sentence : goal.invariant-loop-sentence
invariant-loop-sentence l = All (λ s. nodes s < 2 ^ 32) (take l.sentence-index l.sentences)
