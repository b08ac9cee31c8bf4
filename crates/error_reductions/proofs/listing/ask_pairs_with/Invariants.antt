use Rattle.std.proofs.Common.{◌≡◌, ◌++◌, map}
use Rattle.std.specs.List.{filter}
use Rattle.lint_core.specs.Asked.{is_asked}
use Rattle.lint_core.specs.Database.{below}
use Rattle.error_reductions.specs.inner.Numbered.{question_of_two}
use Rattle.error_reductions.proofs.listing.ask_pairs_with.Given as goal

abbrev pub invariant-loop-other : goal.invariant-loop-other
invariant-loop-other l = l.asked ≡ l.initial.asked ++ filter (is_asked l.schema l.query) (map (question_of_two l.kind l.first) (below l.other))
