-- What stands at a level, where a level is added inside.
use Rattle.std.proofs.Common.{◌≡◌, ◌+◌, ◌<◌, ◌∙◌, ap, sym, ℕ, List, [], ◌∷◌, ◌++◌, length}
use Rattle.std.proofs.lemmas.List.{length-append}
use Rattle.std.specs.Prelude.{slice_get}
use Rattle.std.specs.Option.{option_and_then}
use Rattle.std.proofs.Common.{Bor}
use Rattle.lint_base.proofs.Lists.{get_before, slice_get_last}
use Rattle.lint_core.specs.declared.condition.Entry.{Entry}
use Rattle.lint_core.specs.declared.scope.Levels.{Levels}
use Rattle.lint_core.specs.declared.scope.Levels.TheVariants as levels
use Rattle.lint_core.specs.declared.scope.Levels.TheOpen.{Levels-F}
use Rattle.lint_core.specs.declared.scope.Levels.TheFolds.{fold-roll-Levels}
use Rattle.lint_core.specs.Fits.{at_entry, tables_of}
use Rattle.lint_core.specs.Levels.{levels_step, tables_of_levels}

pub length_inside : (tables : List (List ℕ)) (own : List ℕ) → length (tables ++ own ∷ []) ≡ length tables + 1
length_inside tables own = length-append tables (own ∷ [])

pub at_outer : (tables : List (List ℕ)) (own : List ℕ) (level entry : ℕ) → level < length tables → at_entry (tables ++ own ∷ []) level entry ≡ at_entry tables level entry
at_outer tables own level entry low = ap (option_and_then (λ entries. slice_get entries entry)) (get_before tables (own ∷ []) level low)

pub at_own : (tables : List (List ℕ)) (own : List ℕ) (level entry : ℕ) → level ≡ length tables → at_entry (tables ++ own ∷ []) level entry ≡ slice_get own entry
at_own tables own level entry same = ap (λ level. at_entry (tables ++ own ∷ []) level entry) same ∙ ap (option_and_then (λ entries. slice_get entries entry)) (slice_get_last tables own)

pub tables_inside : (entries : Bor (List Entry)) (outer : Bor Levels) → tables_of_levels (levels.Inside entries outer) ≡ tables_of_levels outer.now ++ tables_of entries.now ∷ []
tables_inside entries outer = ap tables_of_levels (sym (levels.rolls-Inside entries outer)) ∙ fold-roll-Levels (List (List ℕ)) levels_step (Levels-F.Inside entries outer)

pub tables_outside : tables_of_levels levels.Outside ≡ []
tables_outside = ap tables_of_levels (sym levels.rolls-Outside) ∙ fold-roll-Levels (List (List ℕ)) levels_step Levels-F.Outside
