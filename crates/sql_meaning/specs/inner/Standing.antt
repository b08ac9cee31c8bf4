-- Where a condition stands: the tables and the binding of the levels that the code links from the inside out, the
-- outermost level first.
use Rattle.std.specs.Prelude.{ℕ, List, [], ◌∷◌, ◌++◌}
use Rattle.lint_core.specs.Fits.{tables_of}
use Rattle.sql_meaning.specs.declared.levels.Levels.{Levels, fold-Levels}
use Rattle.sql_meaning.specs.declared.levels.Levels.TheOpen.{Levels-F}

abbrev pub tables_step : Levels-F (List (List ℕ)) → List (List ℕ)
tables_step (Levels-F.Given tables rows) = tables.now
tables_step (Levels-F.Inside entries rows outer) = outer.now ++ tables_of entries.now ∷ []

abbrev pub tables_of_levels : Levels → List (List ℕ)
tables_of_levels = fold-Levels (List (List ℕ)) tables_step

abbrev pub binding_step : Levels-F (List (List ℕ)) → List (List ℕ)
binding_step (Levels-F.Given tables rows) = rows.now
binding_step (Levels-F.Inside entries rows outer) = outer.now ++ rows.now ∷ []

abbrev pub binding_of_levels : Levels → List (List ℕ)
binding_of_levels = fold-Levels (List (List ℕ)) binding_step
