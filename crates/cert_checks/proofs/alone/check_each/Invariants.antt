use Rattle.std.proofs.Common.{◌≡◌, ◌++◌, map, drop}
use Rattle.cert_checks.specs.inner.Alone.{alone_line}
use Rattle.cert_checks.proofs.alone.check_each.Given as goal

abbrev pub invariant-loop-cert : goal.invariant-loop-cert
invariant-loop-cert l = l.found.items ++ map (alone_line l.schema l.queries) (drop l.cert-index l.certs) ≡ map (alone_line l.schema l.queries) l.certs
