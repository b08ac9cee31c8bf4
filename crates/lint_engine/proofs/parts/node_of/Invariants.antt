use Rattle.std.proofs.Common.{◌≡◌, ◌+◌, take}
use Rattle.std.specs.List.{sum_by}
use Rattle.sort_formula.specs.Nodes.{nodes}
use Rattle.lint_engine.proofs.parts.node_of.Given as goal

abbrev pub invariant-loop-sentence : goal.invariant-loop-sentence
invariant-loop-sentence l = l.node ≡ 1 + sum_by nodes (take l.sentence-index (take l.part l.parts))
