-- The levels that the code links from the inside out.
use Rattle.std.specs.Prelude.{List, [], ◌∷◌}
use Rattle.sql_bind.specs.declared.levels.Levels.{Levels, fold-Levels}
use Rattle.sql_bind.specs.declared.levels.Levels.TheOpen.{Levels-F}
use Rattle.sql_bind.specs.Names.{Level}

abbrev pub levels_step : Levels-F (List Level) → List Level
levels_step Levels-F.Outside = []
levels_step (Levels-F.Inside entries first end outer) = record { entries = entries.now; first = first; end = end } ∷ outer.now

-- the levels, the innermost first
abbrev pub levels_seen : Levels → List Level
levels_seen = fold-Levels (List Level) levels_step
