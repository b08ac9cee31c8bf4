use Rattle.std.proofs.Common.{length}
use Rattle.case_split.proofs.searching.give_up_entries.Given as goal

abbrev pub decreases-loop-entry : goal.decreases-loop-entry
decreases-loop-entry l = length l.entries.items
