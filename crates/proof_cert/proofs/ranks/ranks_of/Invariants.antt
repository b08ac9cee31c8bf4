use Rattle.std.proofs.Common.{◌≡◌, ◌+◌, length}
use Rattle.proof_cert.specs.inner.Ranks.{AreCounts, AreFirstRanks}
use Rattle.proof_cert.proofs.ranks.ranks_of.Given as goal

abbrev pub invariant-loop-clause : goal.invariant-loop-clause
invariant-loop-clause l = record {
  as_many : length l.ranks.items ≡ l.clause-index;
  slots : length l.counts.items ≡ length l.clauses + 1;
  counts : AreCounts l.clauses l.clause-index l.counts.items;
  ranks : AreFirstRanks l.clauses l.clause-index l.ranks.items;
}
