use Rattle.std.proofs.Common.{length}
use Rattle.truth_formula.proofs.translation.+quantified.Given as goal

abbrev pub decreases-quantified : goal.decreases-quantified
decreases-quantified l = length l.entries.now
