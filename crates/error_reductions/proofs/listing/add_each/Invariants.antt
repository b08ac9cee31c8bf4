use Rattle.std.proofs.Common.{◌≡◌, ◌++◌, map}
use Rattle.lint_core.specs.Database.{below}
use Rattle.error_reductions.specs.inner.Numbered.{question_of}
use Rattle.error_reductions.proofs.listing.add_each.Given as goal

abbrev pub invariant-loop-number : goal.invariant-loop-number
invariant-loop-number l = l.asked ≡ l.initial.asked ++ map (question_of l.kind) (below l.number)
