use Rattle.std.proofs.Common.{◌≡◌, ◌+◌, ◌++◌, drop}
use Rattle.question_truths.specs.Room.{entries_in}
use Rattle.sort_formula.specs.Sides.{numbered_from}
use Rattle.error_reductions.proofs.scopes.numbered.Given as goal

abbrev pub invariant-loop-level : goal.invariant-loop-level
invariant-loop-level l = record {
  numbered : l.levels ++ numbered_from l.next (drop l.level-index l.tables) ≡ numbered_from l.fn.first l.tables;
  room : l.next + entries_in (drop l.level-index l.tables) ≡ l.fn.first + entries_in l.tables;
}
