use Rattle.std.proofs.Common.{◌∙◌}
use Rattle.lint_core.specs.declared.certificate.SumEdge.TheVariants as edge
use Rattle.cert_checker.specs.inner.Inequalities.{bound_said}
use Rattle.cert_checker.specs.inner.Seen.{branch_of}
use Rattle.cert_checker.proofs.Sums.{ring_from_first}
use Rattle.cert_checker.proofs.facts.Open.is_negative_ring.Goals as goal

pub returns-in-Some : goal.returns-in-Some
returns-in-Some c =
    c.comes_back.ensures
    ∙ ring_from_first c.args.tables.now (branch_of c.args.self.now) c.args.edges.now (edge.Fact 0) c.in-len1-up.len_at_least (bound_said c.in-Some.bound)
    c.in-Some.ensures.stated
