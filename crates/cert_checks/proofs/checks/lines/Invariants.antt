use Rattle.std.proofs.Common.{◌≡◌, ◌++◌, map, drop}
use Rattle.cert_checks.specs.inner.Alone.{line_by}
use Rattle.cert_checks.proofs.checks.lines.Given as goal

abbrev pub invariant-loop-one : goal.invariant-loop-one
invariant-loop-one l = l.lines ++ map (line_by l.lacking) (drop l.one-index l.found) ≡ map (line_by l.lacking) l.found
