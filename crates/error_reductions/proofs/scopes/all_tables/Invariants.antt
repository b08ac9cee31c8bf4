use Rattle.std.proofs.Common.{◌≡◌, take}
use Rattle.sort_formula.specs.Sides.{all_of}
use Rattle.error_reductions.proofs.scopes.all_tables.Given as goal

abbrev pub invariant-loop-level : goal.invariant-loop-level
invariant-loop-level l = l.tables ≡ all_of (take l.level-index l.levels)
