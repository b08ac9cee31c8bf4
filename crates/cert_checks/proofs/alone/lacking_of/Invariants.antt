use Rattle.std.proofs.Common.{◌≡◌, ◌+◌, ◌++◌, drop}
use Rattle.cert_checks.specs.inner.Alone.{lacking_of}
use Rattle.cert_checks.proofs.alone.lacking_of.Given as goal

abbrev pub invariant-loop-index : goal.invariant-loop-index
invariant-loop-index l =
    l.lacking.items ++ lacking_of l.found (l.index + 1) (drop l.index l.queries) ≡ lacking_of l.found 1 l.queries
