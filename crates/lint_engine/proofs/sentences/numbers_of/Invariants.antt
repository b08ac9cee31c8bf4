use Rattle.std.proofs.Common.{◌≡◌}
use Rattle.lint_core.specs.Database.{below}
use Rattle.lint_engine.proofs.sentences.numbers_of.Given as goal

abbrev pub invariant-loop-number : goal.invariant-loop-number
invariant-loop-number l = l.numbers ≡ below l.number
