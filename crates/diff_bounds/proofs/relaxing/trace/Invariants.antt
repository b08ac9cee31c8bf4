use Rattle.std.proofs.Common.{◌≡◌, ◌+◌, ◌-◌, ◌<◌, ℕ, List, ◌++◌, length}
use Rattle.diff_bounds.specs.inner.Relaxing.{Reaches, ComesTo}
use Rattle.diff_bounds.proofs.relaxing.trace.Given as goal

abbrev pub invariant-loop-at : goal.invariant-loop-at
invariant-loop-at l = record {
  within : l.at < length l.reasons;
  way : (es : List ℕ) × (l.chain.items ≡ l.initial.chain.items ++ es) × Reaches l.edges l.reasons l.to l.from es l.at;
  rest : (es : List ℕ) × ComesTo l.edges l.reasons l.to l.at es;
}

-- a chain has no more edges than there are variables
abbrev pub decreases-loop-at : goal.decreases-loop-at
decreases-loop-at l = length l.initial.chain.items + length l.reasons + 1 - length l.chain.items
