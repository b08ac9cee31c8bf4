use Rattle.std.proofs.Common.{◌≡◌, ◌++◌, map}
use Rattle.std.specs.List.{filter}
use Rattle.lint_core.specs.Asked.{is_asked}
use Rattle.lint_core.specs.Database.{below}
use Rattle.error_reductions.specs.inner.Numbered.{question_of}
use Rattle.error_reductions.proofs.listing.ask_each.Given as goal

abbrev pub invariant-loop-number : goal.invariant-loop-number
invariant-loop-number l = l.asked ≡ l.initial.asked ++ filter (is_asked l.schema l.query) (map (question_of l.kind) (below l.number))
