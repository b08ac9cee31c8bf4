use Rattle.std.proofs.Common.{◌≡◌, ◌++◌, drop}
use Rattle.sort_formula.specs.CounterPoints.{in_levels}
use Rattle.witness_db.proofs.points.in_levels.Given as goal

-- the levels so far, and those that are left
abbrev pub invariant-loop-level : goal.invariant-loop-level
invariant-loop-level l = l.found ++ in_levels (drop l.level-index l.levels) l.rest ≡ in_levels l.levels l.places
