use Rattle.std.proofs.Common.{◌≡◌, drop}
use Rattle.sort_formula.specs.Chains.{path_end}
use Rattle.cert_checker.specs.inner.Seen.{branch_of}
use Rattle.cert_checker.proofs.facts.Open.path_end.Given as goal

abbrev pub invariant-loop-edge : goal.invariant-loop-edge
invariant-loop-edge l = path_end (branch_of l.self) l.end (drop l.edge-index l.path) ≡ path_end (branch_of l.self) l.fn.row l.path
