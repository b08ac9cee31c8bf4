use Rattle.std.proofs.Common.{◌≡◌, ◌+◌, drop}
use Rattle.question_truths.specs.Room.{entries_in}
use Rattle.error_reductions.proofs.scopes.count_entries.Given as goal

abbrev pub invariant-loop-level : goal.invariant-loop-level
invariant-loop-level l = l.count + entries_in (drop l.level-index l.tables) ≡ entries_in l.tables
