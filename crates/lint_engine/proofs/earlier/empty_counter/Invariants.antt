use Rattle.std.proofs.Common.{◌≡◌}
use Rattle.std.specs.Prelude.{find}
use Rattle.lint_engine.specs.Earlier.{Answered, answered, is_empty}
use Rattle.lint_engine.proofs.Looking.{rest}
use Rattle.lint_engine.proofs.earlier.empty_counter.Given as goal

abbrev pub invariant-loop-place : goal.invariant-loop-place
invariant-loop-place l =
    find (λ (x : Answered). is_empty x.question) (rest l.asked l.answers l.place)
    ≡ find (λ (x : Answered). is_empty x.question) (answered 1 l.asked l.answers)
