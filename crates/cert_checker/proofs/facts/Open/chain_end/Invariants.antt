use Rattle.std.proofs.Common.{◌≡◌, drop}
use Rattle.sort_formula.specs.Chains.{chain_end}
use Rattle.cert_checker.specs.inner.Seen.{branch_of, side_of}
use Rattle.cert_checker.proofs.facts.Open.chain_end.Given as goal

abbrev pub invariant-loop-edge : goal.invariant-loop-edge
invariant-loop-edge l =
    chain_end l.tables (branch_of l.self) (side_of l.end) (drop l.edge-index l.edges)
    ≡ chain_end l.tables (branch_of l.self) (side_of l.fn.from) l.edges
