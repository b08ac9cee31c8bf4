use Rattle.std.proofs.Common.{◌∙◌, ◌<◌, ◌+ℤ◌, ℤ, sym, to_z, of_z, length, arith}
use mir.Syntax.{w128}
use Rattle.lint_core.specs.declared.certificate.SumEdge.TheVariants as edge
use Rattle.cert_checker.specs.inner.Inequalities.{bound_said}
use Rattle.cert_checker.specs.inner.Seen.{branch_of, side_of}
use Rattle.cert_checker.proofs.Sums.{moderate_high, moderate_low, ring_goes_on, total_fits, total_high, total_low}
use Rattle.cert_checker.proofs.facts.Open.comes_back.Goals as goal

pub loop-edge-preserved : goal.loop-edge-preserved
loop-edge-preserved c =
    let sum : ℤ = to_z w128 c.loop-edge.sum-bits in
    let most : ℤ = c.in-Some.bound.most in
    let index = c.loop-edge.edge-index in
    let within : index < length c.args.edges.now = omega arith in
    let few : index < 32769 = omega arith in
    let least = moderate_low most c.in-Some.ensures.moderate in
    let greatest = moderate_high most c.in-Some.ensures.moderate in
    let total = total_fits index sum most few c.loop-edge.invariant.low c.loop-edge.invariant.high least greatest in
    record {
      rest =
          ring_goes_on c.args.tables.now (branch_of c.args.self.now) (side_of c.args.start) (side_of c.loop-edge.end) sum c.args.edges.now index (edge.Fact 0) within
          (bound_said c.in-Some.bound) c.in-Some.ensures.stated (sym c.is_same.ensures ∙ c.if-is_same.true) (to_z w128 (of_z w128 (sum +ℤ to_z w128 (of_z w128 most)))) total
          ∙ c.loop-edge.invariant.rest;
      low = rw total (total_low index sum most c.loop-edge.invariant.low least);
      high = rw total (total_high index sum most c.loop-edge.invariant.high greatest);
    }
