use Rattle.std.proofs.Common.{◌≡◌, ◌++◌, drop, map}
use Rattle.lint_run.specs.Text.{certs_of}
use Rattle.lint_run.proofs.texts.certs_of.Given as goal

abbrev pub invariant-loop-query : goal.invariant-loop-query
invariant-loop-query l = map (λ c. c.now) l.certs.items ++ certs_of (drop l.query-index l.queries) ≡ certs_of l.queries
