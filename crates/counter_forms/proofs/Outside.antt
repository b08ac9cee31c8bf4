-- The tables of the variables of the scopes of the counter sentences.
use Rattle.std.proofs.Common.{◌≡◌, ◌∙◌, ◌+◌, ◌<◌, ap, ap₂, sym, refl, subst, ℕ, zero, suc, Bool, true, List, [], ◌∷◌, ◌++◌, length, inl, inr, arith}
use Rattle.std.proofs.lemmas.Bool.{cases_lt}
use Rattle.std.proofs.lemmas.List.{append_assoc, append-nil, length-append}
use Rattle.std.proofs.lemmas.Option.{slice_get_past}
use Rattle.std.specs.Prelude.{slice_get, option_and_then}
use Rattle.lint_base.proofs.Lists.{get_before, get_behind}
use Rattle.lint_core.specs.Fits.{at_entry}
use Rattle.sort_formula.specs.Counters.{outer_levels, last_level}
use Rattle.sort_formula.specs.Sides.{all_of, from_number, numbered_from}
use Rattle.truth_laws.proofs.Outside.{AreOutside, one_inside, variable_at, variable_past}
use Rattle.counter_forms.proofs.LastLevels.{split_last}
use Rattle.counter_forms.proofs.Variables.{numbered_lengths}

-- ---- variables from a number on, and as many tables there

pub level_at : (outside before own more : List ℕ) (first entry : ℕ) → outside ≡ before ++ (own ++ more) → length before ≡ first →
    option_and_then (slice_get outside) (slice_get (from_number first (length own)) entry) ≡ slice_get own entry
level_at outside before own more first entry is long =
    elim (cases_lt entry (length own)) [
      | inl low ↦
          ap (option_and_then (slice_get outside)) (variable_at first (length own) entry low)
          ∙ (ap₂ (λ tables n. slice_get tables (n + entry)) is (sym long)
          ∙ (get_behind before (own ++ more) entry ∙ get_before own more entry low))
      | inr high ↦
          ap (option_and_then (slice_get outside)) (variable_past first (length own) entry high)
          ∙ sym (slice_get_past own entry high)
    ]

pub numbered_at : (outside before : List ℕ) (tables : List (List ℕ)) (more : List ℕ) (first level entry : ℕ) → outside ≡ before ++ (all_of tables ++ more) → length before ≡ first →
    option_and_then (slice_get outside) (at_entry (numbered_from first tables) level entry) ≡ at_entry tables level entry
numbered_at outside before [] more first level entry is long = refl
numbered_at outside before (own ∷ tables) more first zero entry is long =
    level_at outside before own (all_of tables ++ more) first entry (is ∙ ap (λ rest. before ++ rest) (append_assoc own (all_of tables) more)) long
numbered_at outside before (own ∷ tables) more first (suc level) entry is long =
    numbered_at outside (before ++ own) tables more (first + length own) level entry
    (is ∙ (ap (λ rest. before ++ rest) (append_assoc own (all_of tables) more) ∙ sym (append_assoc before own (all_of tables ++ more))))
    (length-append before own ∙ ap (λ n. n + length own) long)

-- ---- scopes

-- numbered levels, under further quantifiers
pub numbered_outside : (tables : List (List ℕ)) (outside more : List ℕ) (depth : ℕ) (named : ℕ → Bool) → outside ≡ all_of tables ++ more → length outside ≡ depth →
    AreOutside (record { levels = numbered_from 0 tables; tables = tables; depth = depth }) outside named
numbered_outside tables outside more depth named is long = record {
  lengths = numbered_lengths 0 tables;
  depth = long;
  main = λ entry name. numbered_at outside [] tables more 0 0 entry is refl;
  inner = λ level entry. numbered_at outside [] tables more 0 (suc level) entry is refl;
}

-- one level
pub level_outside : (tables variables outside : List ℕ) (depth : ℕ) (named : ℕ → Bool) → length variables ≡ length tables → length outside ≡ depth →
    ((entry : ℕ) → named entry ≡ true → option_and_then (slice_get outside) (slice_get variables entry) ≡ slice_get tables entry) →
    AreOutside (record { levels = variables ∷ []; tables = tables ∷ []; depth = depth }) outside named
level_outside tables variables outside depth named same long each = record {
  lengths = ap (λ n. n ∷ []) same;
  depth = long;
  main = each;
  inner = λ level entry. refl;
}

-- all levels once, and the last once more
pub all_split : (tables : List (List ℕ)) → 0 < length tables → all_of tables ≡ all_of (outer_levels tables) ++ last_level tables
all_split [] some = absurd (omega arith)
all_split (level ∷ []) some = append-nil level
all_split (level ∷ next ∷ levels) some =
    ap (λ rest. level ++ rest) (all_split (next ∷ levels) (omega arith)) ∙ sym (append_assoc level (all_of (outer_levels (next ∷ levels))) (last_level (next ∷ levels)))

pub second_outside : (tables : List (List ℕ)) (named : ℕ → Bool) → 0 < length tables →
    AreOutside (record {
      levels = numbered_from 0 (outer_levels tables) ++ from_number (length (all_of tables)) (length (last_level tables)) ∷ [];
      tables = tables;
      depth = length (all_of tables) + length (last_level tables);
    }) (all_of tables ++ last_level tables) named
second_outside tables named some =
    let outer = outer_levels tables in
    let last = last_level tables in
    let first = length (all_of tables) in
    let outside = all_of tables in
    let around : AreOutside (record { levels = numbered_from 0 outer; tables = outer; depth = first }) outside named =
    numbered_outside outer outside last first named (all_split tables some) refl in
    subst (λ (all : List (List ℕ)). AreOutside (record { levels = numbered_from 0 outer ++ from_number first (length last) ∷ []; tables = all; depth = first + length last }) (outside ++ last) named)
    (split_last tables some)
    (one_inside (record { levels = numbered_from 0 outer; tables = outer; depth = first }) outside last named around)

-- ---- the last level of each

pub last_of : (levels : List (List ℕ)) (level : List ℕ) → last_level (levels ++ level ∷ []) ≡ level
last_of [] level = refl
last_of (one ∷ []) level = refl
last_of (one ∷ two ∷ levels) level = last_of (two ∷ levels) level

pub last_numbered : (first : ℕ) (tables : List (List ℕ)) → 0 < length tables →
    last_level (numbered_from first tables) ≡ from_number (first + length (all_of (outer_levels tables))) (length (last_level tables))
last_numbered first [] some = absurd (omega arith)
last_numbered first (level ∷ []) some =
    let same : first ≡ first + length (all_of []) = omega arith in
    ap (λ n. from_number n (length level)) same
last_numbered first (level ∷ next ∷ levels) some =
    let outer = all_of (outer_levels (next ∷ levels)) in
    let same : first + length level + length outer ≡ first + length (level ++ outer) = omega (arith, length-append level outer) in
    last_numbered (first + length level) (next ∷ levels) (omega arith)
    ∙ ap (λ n. from_number n (length (last_level (next ∷ levels)))) same
