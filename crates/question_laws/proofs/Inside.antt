-- Two standpoints with the same rows have them also one level inside.
use Rattle.std.proofs.Common.{◌≡◌, ◌∙◌, ◌+◌, ◌<◌, ◌≤◌, sym, ap, ap₂, refl, ℕ, zero, suc, Bool, true, List, [], ◌∷◌, ◌++◌, length, inl, inr, arith}
use Rattle.std.proofs.lemmas.Bool.{cases_lt}
use Rattle.std.proofs.lemmas.List.{length-append}
use Rattle.std.proofs.lemmas.Option.{slice_get_past}
use Rattle.std.specs.Prelude.{Option, Some, None, slice_get, option_and_then}
use Rattle.lint_core.specs.Fits.{at_entry}
use Rattle.lint_core.specs.Database.{Place}
use Rattle.lint_core.specs.declared.scope.Scope.{Scope}
use Rattle.sort_formula.specs.Sides.{from_number}
use Rattle.sort_formula.specs.Translation.{inside}
use Rattle.lint_base.proofs.Lists.{slice_get_front, get_behind, get_before, slice_get_last}
use Rattle.truth_laws.proofs.Outside.{variable_at}
use Rattle.question_laws.specs.Alike.{HaveOneRow, HaveSameRows}

-- ---- what stands at a level and an entry

module _ (levels : List (List ℕ)) (own : List ℕ) (level entry : ℕ) where
  at_outer : level < length levels → at_entry (levels ++ own ∷ []) level entry ≡ at_entry levels level entry
  at_outer low = ap (option_and_then (λ entries. slice_get entries entry)) (get_before levels (own ∷ []) level low)

  at_own : level ≡ length levels → at_entry (levels ++ own ∷ []) level entry ≡ slice_get own entry
  at_own same = ap (λ level. at_entry (levels ++ own ∷ []) level entry) same ∙ ap (option_and_then (λ entries. slice_get entries entry)) (slice_get_last levels own)

  at_past : length levels < level → at_entry (levels ++ own ∷ []) level entry ≡ None
  at_past far =
      let long : length (levels ++ own ∷ []) ≤ level = rw (length-append levels (own ∷ [])) (omega arith) in
      ap (option_and_then (λ entries. slice_get entries entry)) (slice_get_past (levels ++ own ∷ []) level long)

-- ---- elements

pub there_is : {A : Type 0} (xs : List A) (i : ℕ) → i < length xs → (x : A) × (slice_get xs i ≡ Some x)
there_is [] i low = absurd (omega arith)
there_is (x ∷ xs) zero low = (x, refl)
there_is (x ∷ xs) (suc i) low = there_is xs i (omega arith)

pub is_within : {A : Type 0} (xs : List A) (i : ℕ) (x : A) → slice_get xs i ≡ Some x → i < length xs
is_within [] i x at = cc
is_within (y ∷ xs) zero x at = omega arith
is_within (y ∷ xs) (suc i) x at = omega (arith, is_within xs i x at)

-- the same row, where more rows follow
pub more_rows : (rows more : List Place) (variable : Option ℕ) (place : Place) → option_and_then (slice_get rows) variable ≡ Some place → option_and_then (slice_get (rows ++ more)) variable ≡ Some place
more_rows rows more None place at = cc
more_rows rows more (Some variable) place at = slice_get_front rows more variable place at

own_row : (rows places : List Place) (depth count entry : ℕ) (place : Place) → length rows ≡ depth → entry < count → slice_get places entry ≡ Some place →
    option_and_then (slice_get (rows ++ places)) (slice_get (from_number depth count) entry) ≡ Some place
own_row rows places depth count entry place deep low at =
    ap (option_and_then (slice_get (rows ++ places))) (variable_at depth count entry low)
    ∙ (ap (λ n. slice_get (rows ++ places) (n + entry)) (sym deep) ∙ (get_behind rows places entry ∙ at))

module _ (one other : Scope) (rows others : List Place) (named : ℕ → ℕ → Bool) where
  -- what names no more has the same rows too
  pub fewer : (less : ℕ → ℕ → Bool) → ((level entry : ℕ) → less level entry ≡ true → named level entry ≡ true) → HaveSameRows one other rows others named → HaveSameRows one other rows others less
  fewer less leads same = record {
    tables = same.tables;
    depth = same.depth;
    other_depth = same.other_depth;
    levels = same.levels;
    other_levels = same.other_levels;
    entries = λ level entry table at is. same.entries level entry table at (leads level entry is);
  }

  module _ (same : HaveSameRows one other rows others named) (own : List ℕ) (places : List Place) (long : length places ≡ length own) where
    abbrev InsideToo : ℕ → ℕ → Type 0
    InsideToo level entry = HaveOneRow (inside one own) (inside other own) (rows ++ places) (others ++ places) level entry

    levels_too : length other.levels ≡ length one.tables
    levels_too = same.other_levels ∙ sym (ap length same.tables)

    outer_inside : (level entry : ℕ) → level < length one.tables → HaveOneRow one other rows others level entry → InsideToo level entry
    outer_inside level entry low here = record {
      row = here.row;
      in_one =
          ap (option_and_then (slice_get (rows ++ places))) (at_outer one.levels (from_number one.depth (length own)) level entry (omega (arith, same.levels)))
          ∙ more_rows rows places (at_entry one.levels level entry) here.row here.in_one;
      in_other =
          ap (option_and_then (slice_get (others ++ places))) (at_outer other.levels (from_number other.depth (length own)) level entry (omega (arith, levels_too)))
          ∙ more_rows others places (at_entry other.levels level entry) here.row here.in_other;
    }

    own_inside : (level entry : ℕ) → level ≡ length one.tables → entry < length own → InsideToo level entry
    own_inside level entry near low =
        let place = there_is places entry (omega (arith, long)) in
        record {
          row = place.0;
          in_one =
              ap (option_and_then (slice_get (rows ++ places))) (at_own one.levels (from_number one.depth (length own)) level entry (near ∙ sym same.levels))
              ∙ own_row rows places one.depth (length own) entry place.0 same.depth low place.1;
          in_other =
              ap (option_and_then (slice_get (others ++ places))) (at_own other.levels (from_number other.depth (length own)) level entry (near ∙ sym levels_too))
              ∙ own_row others places other.depth (length own) entry place.0 same.other_depth low place.1;
        }

    entry_inside : (level entry table : ℕ) → at_entry (one.tables ++ own ∷ []) level entry ≡ Some table → named level entry ≡ true → InsideToo level entry
    entry_inside level entry table at is =
        elim (cases_lt level (length one.tables)) [
          | inl low ↦ outer_inside level entry low (same.entries level entry table (sym (at_outer one.tables own level entry low) ∙ at) is)
          | inr high ↦
              elim (cases_lt (length one.tables) level) [
                | inl far ↦ let none = at_past one.tables own level entry far in cc
                | inr near ↦
                    let level_is : level ≡ length one.tables = omega arith in
                    own_inside level entry level_is (is_within own entry table (sym (at_own one.tables own level entry level_is) ∙ at))
              ]
        ]

    one_level : (levels tables : List (List ℕ)) (variables : List ℕ) → length levels ≡ length tables → length (levels ++ variables ∷ []) ≡ length (tables ++ own ∷ [])
    one_level levels tables variables lengths = length-append levels (variables ∷ []) ∙ (ap (λ n. n + 1) lengths ∙ sym (length-append tables (own ∷ [])))

    pub same_inside : HaveSameRows (inside one own) (inside other own) (rows ++ places) (others ++ places) named
    same_inside = record {
      tables = ap (λ tables. tables ++ own ∷ []) same.tables;
      depth = length-append rows places ∙ ap₂ (λ a b. a + b) same.depth long;
      other_depth = length-append others places ∙ ap₂ (λ a b. a + b) same.other_depth long;
      levels = one_level one.levels one.tables (from_number one.depth (length own)) same.levels;
      other_levels = one_level other.levels other.tables (from_number other.depth (length own)) same.other_levels;
      entries = entry_inside;
    }
