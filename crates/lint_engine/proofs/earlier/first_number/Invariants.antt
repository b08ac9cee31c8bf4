use Rattle.std.proofs.Common.{◌≡◌}
use Rattle.std.specs.Prelude.{find}
use Rattle.lint_engine.specs.Earlier.{answered}
use Rattle.lint_engine.specs.inner.Sought.{is_sought}
use Rattle.lint_engine.proofs.Looking.{rest}
use Rattle.lint_engine.proofs.earlier.first_number.Given as goal

abbrev pub invariant-loop-place : goal.invariant-loop-place
invariant-loop-place l = find (is_sought l.sought) (rest l.asked l.answers l.place) ≡ find (is_sought l.sought) (answered 1 l.asked l.answers)
