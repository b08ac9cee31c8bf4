-- The tables of the levels, where a level is added inside.
use Rattle.std.proofs.Common.{◌≡◌, ◌∙◌, ap, sym, ℕ, List, [], ◌∷◌, ◌++◌, map, Bor}
use mathlib.Core.List.{reverse-cons}
use Rattle.lint_core.specs.declared.condition.Entry.{Entry}
use Rattle.lint_core.specs.Fits.{tables_of}
use Rattle.sql_bind.specs.declared.levels.Levels.{Levels}
use Rattle.sql_bind.specs.declared.levels.Levels.TheVariants as levels
use Rattle.sql_bind.specs.declared.levels.Levels.TheOpen.{Levels-F}
use Rattle.sql_bind.specs.declared.levels.Levels.TheFolds.{fold-roll-Levels}
use Rattle.sql_bind.specs.Names.{Level, level_tables}
use Rattle.sql_bind.specs.inner.Levels.{levels_step, levels_seen}

pub seen_inside : (entries : Bor (List Entry)) (first end : ℕ) (outer : Bor Levels) → levels_seen (levels.Inside entries first end outer) ≡ record { entries = entries.now; first = first; end = end } ∷ levels_seen outer.now
seen_inside entries first end outer = ap levels_seen (sym (levels.rolls-Inside entries first end outer)) ∙ fold-roll-Levels (List Level) levels_step (Levels-F.Inside entries first end outer)

pub tables_inside : (entries : Bor (List Entry)) (first end : ℕ) (outer : Bor Levels) → level_tables (levels_seen (levels.Inside entries first end outer)) ≡ level_tables (levels_seen outer.now) ++ tables_of entries.now ∷ []
tables_inside entries first end outer = ap level_tables (seen_inside entries first end outer) ∙ reverse-cons (tables_of entries.now) (map (λ (level : Level). tables_of level.entries) (levels_seen outer.now))

pub seen_outside : levels_seen levels.Outside ≡ []
seen_outside = ap levels_seen (sym levels.rolls-Outside) ∙ fold-roll-Levels (List Level) levels_step Levels-F.Outside
