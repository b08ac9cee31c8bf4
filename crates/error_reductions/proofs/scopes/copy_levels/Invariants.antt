use Rattle.std.proofs.Common.{◌≡◌, take}
use Rattle.error_reductions.proofs.scopes.copy_levels.Given as goal

abbrev pub invariant-loop-level : goal.invariant-loop-level
invariant-loop-level l = l.copies ≡ take l.level-index l.levels
