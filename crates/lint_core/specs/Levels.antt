-- The tables of levels that are linked from the inside out, the outermost first.
use Rattle.std.specs.Prelude.{ℕ, List, [], ◌∷◌, ◌++◌}
use Rattle.lint_core.specs.declared.scope.Levels.{Levels, fold-Levels}
use Rattle.lint_core.specs.declared.scope.Levels.TheOpen.{Levels-F}
use Rattle.lint_core.specs.Fits.{tables_of}

abbrev pub levels_step : Levels-F (List (List ℕ)) → List (List ℕ)
levels_step Levels-F.Outside = []
levels_step (Levels-F.Given tables) = tables.now
levels_step (Levels-F.Row table) = (table ∷ []) ∷ []
levels_step (Levels-F.Inside entries outer) = outer.now ++ tables_of entries.now ∷ []

abbrev pub tables_of_levels : Levels → List (List ℕ)
tables_of_levels = fold-Levels (List (List ℕ)) levels_step
