use Rattle.std.proofs.Common.{◌≡◌, None, replicate}
use Rattle.diff_bounds.proofs.relaxing.nones.Given as goal

abbrev pub invariant-loop : goal.invariant-loop
invariant-loop l = l.all.items ≡ replicate l.counter None
