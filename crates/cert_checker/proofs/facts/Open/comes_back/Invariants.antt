use Rattle.std.proofs.Common.{◌≡◌, ◌*◌, ◌^◌, ◌≤ℤ◌, neg_ℤ, pos, drop}
use Rattle.cert_checker.specs.inner.Inequalities.{comes_back}
use Rattle.cert_checker.specs.inner.Seen.{branch_of, side_of}
use Rattle.cert_checker.proofs.facts.Open.comes_back.Given as goal

abbrev pub invariant-loop-edge : goal.invariant-loop-edge
invariant-loop-edge l = record {
  rest :
      comes_back l.tables (branch_of l.self) (side_of l.start) (side_of l.end) l.sum (drop l.edge-index l.edges)
      ≡ comes_back l.tables (branch_of l.self) (side_of l.start) (side_of l.start) (pos 0) l.edges;
  low : neg_ℤ (pos (l.edge-index * 2 ^ 66)) ≤ℤ l.sum;
  high : l.sum ≤ℤ pos (l.edge-index * 2 ^ 66);
}
