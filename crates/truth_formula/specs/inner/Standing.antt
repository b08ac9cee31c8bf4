-- The scope that the code links from the inside out. Nothing here has to be believed: no public contract says it.
use Rattle.std.specs.Prelude.{ℕ, ◌+◌, List, [], ◌∷◌, ◌++◌, length}
use Rattle.lint_core.specs.declared.scope.Scope.{Scope}
use Rattle.lint_core.specs.Fits.{tables_of}
use Rattle.lint_core.specs.Levels.{tables_of_levels}
use Rattle.sort_formula.specs.Sides.{from_number}
use Rattle.truth_formula.specs.declared.standing.Standing.{Standing}
use Rattle.truth_formula.specs.declared.standing.Variables.{Variables, fold-Variables}
use Rattle.truth_formula.specs.declared.standing.Variables.TheOpen.{Variables-F}

-- the variables of the levels, and how many quantifiers are outside
pub record Numbered : Type 0 where
  pub levels : List (List ℕ)
  pub depth : ℕ

abbrev pub numbered_step : Variables-F Numbered → Numbered
numbered_step (Variables-F.Given scope) = record { levels = scope.now.levels; depth = scope.now.depth }
numbered_step (Variables-F.Inside entries outer) = record {
  levels = outer.now.levels ++ from_number outer.now.depth (length (tables_of entries.now)) ∷ [];
  depth = outer.now.depth + length (tables_of entries.now);
}

abbrev pub numbered : Variables → Numbered
numbered = fold-Variables Numbered numbered_step

abbrev pub scope_of : Standing → Scope
scope_of standing = record {
  levels = (numbered standing.variables).levels;
  tables = tables_of_levels standing.tables;
  depth = (numbered standing.variables).depth;
}
