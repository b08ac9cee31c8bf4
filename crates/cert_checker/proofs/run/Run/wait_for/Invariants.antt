use Rattle.std.proofs.Common.{◌≡◌, ◌++◌, map, reverse}
use Rattle.cert_checker.specs.inner.Branches.{waits}
use Rattle.cert_checker.specs.inner.Seen.{branch_of}
use Rattle.cert_checker.proofs.run.Run.wait_for.Given as goal

abbrev pub invariant-loop-part : goal.invariant-loop-part
invariant-loop-part l = record {
  branch : l.self.branch ≡ l.fn.self.branch;
  going : l.self.is_closed ≡ l.fn.self.is_closed;
  waiting :
      l.self.waiting.items ++ reverse (map (waits (branch_of l.fn.self.branch) l.whole.rows) l.part-iterator.iter.rest.now)
      ≡ l.fn.self.waiting.items ++ reverse (map (waits (branch_of l.fn.self.branch) l.whole.rows) l.parts);
}
