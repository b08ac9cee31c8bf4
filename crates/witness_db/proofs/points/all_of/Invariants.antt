use Rattle.std.proofs.Common.{◌≡◌, take}
use Rattle.sort_formula.specs.Sides.{all_of}
use Rattle.witness_db.proofs.points.all_of.Given as goal

abbrev pub invariant-loop-level : goal.invariant-loop-level
invariant-loop-level l = l.all ≡ all_of (take l.level-index l.levels)
