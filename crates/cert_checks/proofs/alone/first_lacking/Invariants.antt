use Rattle.std.proofs.Common.{◌≡◌, ◌+◌, drop}
use Rattle.cert_checks.specs.Checks.{first_lacking}
use Rattle.cert_checks.specs.inner.Alone.{has_accepted}
use Rattle.cert_checks.proofs.alone.first_lacking.Given as goal

abbrev pub invariant-loop-place : goal.invariant-loop-place
invariant-loop-place l =
    first_lacking (has_accepted l.found l.query) (l.place + 1) (drop l.place l.asked)
    ≡ first_lacking (has_accepted l.found l.query) 1 l.asked
