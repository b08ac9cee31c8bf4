use Rattle.sorted_skolem.specs.inner.Waiting.{AreSound, missing}
use Rattle.sorted_skolem.proofs.edges.live_tables.Given as goal

abbrev pub invariant-loop-live : goal.invariant-loop-live
invariant-loop-live l = AreSound l.asks l.live.items

-- each turn but the last adds a table
abbrev pub decreases-loop-live : goal.decreases-loop-live
decreases-loop-live l = missing l.asks l.live.items
