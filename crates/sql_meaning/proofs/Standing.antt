-- What stands at a level, where a level is added inside.
use Rattle.std.proofs.Common.{◌≡◌, ◌∙◌, ap, sym, ℕ, List, [], ◌∷◌, ◌++◌}
use Rattle.std.specs.Borrow.{Bor}
use Rattle.lint_core.specs.Fits.{tables_of}
use Rattle.lint_core.specs.declared.condition.Entry.{Entry}
use Rattle.sql_meaning.specs.inner.Standing.{tables_step, tables_of_levels, binding_step, binding_of_levels}
use Rattle.sql_meaning.specs.declared.levels.Levels.{Levels}
use Rattle.sql_meaning.specs.declared.levels.Levels.TheFolds.{fold-roll-Levels}
use Rattle.sql_meaning.specs.declared.levels.Levels.TheOpen.{Levels-F}
use Rattle.sql_meaning.specs.declared.levels.Levels.TheVariants as levels

pub tables_inside : (entries : Bor (List Entry)) (rows : Bor (List ℕ)) (outer : Bor Levels) → tables_of_levels (levels.Inside entries rows outer) ≡ tables_of_levels outer.now ++ tables_of entries.now ∷ []
tables_inside entries rows outer = ap tables_of_levels (sym (levels.rolls-Inside entries rows outer)) ∙ fold-roll-Levels (List (List ℕ)) tables_step (Levels-F.Inside entries rows outer)

pub binding_inside : (entries : Bor (List Entry)) (rows : Bor (List ℕ)) (outer : Bor Levels) → binding_of_levels (levels.Inside entries rows outer) ≡ binding_of_levels outer.now ++ rows.now ∷ []
binding_inside entries rows outer = ap binding_of_levels (sym (levels.rolls-Inside entries rows outer)) ∙ fold-roll-Levels (List (List ℕ)) binding_step (Levels-F.Inside entries rows outer)

pub tables_given : (tables rows : Bor (List (List ℕ))) → tables_of_levels (levels.Given tables rows) ≡ tables.now
tables_given tables rows = ap tables_of_levels (sym (levels.rolls-Given tables rows)) ∙ fold-roll-Levels (List (List ℕ)) tables_step (Levels-F.Given tables rows)

pub binding_given : (tables rows : Bor (List (List ℕ))) → binding_of_levels (levels.Given tables rows) ≡ rows.now
binding_given tables rows = ap binding_of_levels (sym (levels.rolls-Given tables rows)) ∙ fold-roll-Levels (List (List ℕ)) binding_step (Levels-F.Given tables rows)
