-- The tables of the variables of a scope, also one level inside.
use Rattle.std.proofs.Common.{◌≡◌, ◌∙◌, ◌≤◌, ◌<◌, ◌+◌, add-one, sym, ap, refl, subst, ℕ, zero, suc, Bool, true, List, [], ◌∷◌, ◌++◌, length, map, inl, inr, arith}
use Rattle.std.proofs.lemmas.Bool.{cases_lt}
use Rattle.std.proofs.lemmas.List.{length-append, length-map}
use Rattle.std.proofs.lemmas.Option.{slice_get-map, slice_get_past as past_end}
use Rattle.std.specs.Option.{option_map}
use Rattle.std.specs.Prelude.{Some, None, slice_get, option_and_then}
use Rattle.lint_core.specs.Fits.{at_entry}
use Rattle.lint_core.specs.Database.{below}
use Rattle.lint_core.specs.declared.scope.Scope.{Scope}
use Rattle.sort_formula.specs.Sides.{from_number}
use Rattle.sort_formula.specs.Translation.{inside}
use Rattle.lint_base.proofs.Lists.{slice_get_front, get_behind, slice_get_last}

length_below : (n : ℕ) → length (below n) ≡ n
length_below zero = refl
length_below (suc n) = length-append (below n) (n ∷ []) ∙ (ap (λ k. k + 1) (length_below n) ∙ add-one n)

-- a number stands at its own place
below_at : (n k : ℕ) → k < n → slice_get (below n) k ≡ Some k
below_at zero k low = absurd (omega arith)
below_at (suc n) k low =
    elim (cases_lt k n) [
      | inl less ↦ slice_get_front (below n) (n ∷ []) k k (below_at n k less)
      | inr more ↦
          let same : k ≡ n = omega arith in
          subst (λ k. slice_get (below n ++ n ∷ []) k ≡ Some k) (sym same) (ap (slice_get (below n ++ n ∷ [])) (sym (length_below n)) ∙ slice_get_last (below n) n)
    ]

-- the variable of an entry of the innermost level
pub variable_at : (first count entry : ℕ) → entry < count → slice_get (from_number first count) entry ≡ Some (first + entry)
variable_at first count entry low = slice_get-map (λ k. first + k) (below count) entry ∙ ap (option_map (λ k. first + k)) (below_at count entry low)

pub variable_past : (first count entry : ℕ) → count ≤ entry → slice_get (from_number first count) entry ≡ None
variable_past first count entry high =
    slice_get-map (λ k. first + k) (below count) entry
    ∙ ap (option_map (λ k. first + k)) (past_end (below count) entry (subst (λ n. n ≤ entry) (sym (length_below count)) high))

-- the variables of the innermost level have its tables
own_tables : (outside own : List ℕ) (depth entry : ℕ) → length outside ≡ depth →
    option_and_then (slice_get (outside ++ own)) (slice_get (from_number depth (length own)) entry) ≡ slice_get own entry
own_tables outside own depth entry deep =
    elim (cases_lt entry (length own)) [
      | inl low ↦
          ap (option_and_then (slice_get (outside ++ own))) (variable_at depth (length own) entry low)
          ∙ (ap (λ n. slice_get (outside ++ own) (n + entry)) (sym deep) ∙ get_behind outside own entry)
      | inr high ↦
          ap (option_and_then (slice_get (outside ++ own))) (variable_past depth (length own) entry high)
          ∙ sym (past_end own entry high)
    ]

-- a variable outside has its table also inside
entry_inside : (outside own level tables : List ℕ) → length level ≡ length tables → (entry : ℕ) →
    option_and_then (slice_get outside) (slice_get level entry) ≡ slice_get tables entry →
    option_and_then (slice_get (outside ++ own)) (slice_get level entry) ≡ slice_get tables entry
entry_inside outside own [] tables same entry at = at
entry_inside outside own (variable ∷ level) [] same entry at = absurd (omega arith)
entry_inside outside own (variable ∷ level) (table ∷ tables) same zero at = slice_get_front outside own variable table at
entry_inside outside own (variable ∷ level) (table ∷ tables) same (suc entry) at = entry_inside outside own level tables (omega arith) entry at

level_inside : (outside own variables : List ℕ) → ((entry : ℕ) → option_and_then (slice_get (outside ++ own)) (slice_get variables entry) ≡ slice_get own entry) →
    (levels tables : List (List ℕ)) → map length levels ≡ map length tables → (level entry : ℕ) →
    option_and_then (slice_get outside) (at_entry levels level entry) ≡ at_entry tables level entry →
    option_and_then (slice_get (outside ++ own)) (at_entry (levels ++ variables ∷ []) level entry) ≡ at_entry (tables ++ own ∷ []) level entry
level_inside outside own variables here [] [] same zero entry at = here entry
level_inside outside own variables here [] [] same (suc level) entry at = refl
level_inside outside own variables here [] (t ∷ tables) same level entry at = cc
level_inside outside own variables here (l ∷ levels) [] same level entry at = cc
level_inside outside own variables here (l ∷ levels) (t ∷ tables) same zero entry at =
    let lengths : length l ≡ length t = cc in
    entry_inside outside own l t lengths entry at
level_inside outside own variables here (l ∷ levels) (t ∷ tables) same (suc level) entry at =
    let others : map length levels ≡ map length tables = cc in
    level_inside outside own variables here levels tables others level entry at

pub length_from : (first count : ℕ) → length (from_number first count) ≡ count
length_from first count = length-map (below count) (λ k. first + k) ∙ length_below count

pub lengths_inside : (levels tables : List (List ℕ)) (level own : List ℕ) → map length levels ≡ map length tables → length level ≡ length own →
    map length (levels ++ level ∷ []) ≡ map length (tables ++ own ∷ [])
lengths_inside [] [] level own same here = ap (λ n. n ∷ []) here
lengths_inside [] (t ∷ tables) level own same here = cc
lengths_inside (l ∷ levels) [] level own same here = cc
lengths_inside (l ∷ levels) (t ∷ tables) level own same here =
    let first : length l ≡ length t = cc in
    let others : map length levels ≡ map length tables = cc in
    ap (λ n. n ∷ map length (levels ++ level ∷ [])) first ∙ ap (λ ns. length t ∷ ns) (lengths_inside levels tables level own others here)

-- the variable of an entry is of its table
abbrev pub IsTableOf : Scope → List ℕ → ℕ → ℕ → Type 0
IsTableOf scope outside level entry = option_and_then (slice_get outside) (at_entry scope.levels level entry) ≡ at_entry scope.tables level entry

-- the tables outside are those of the scope's entries; of level 0, of those that are named
pub record AreOutside (scope : Scope) (outside : List ℕ) (named : ℕ → Bool) : Type 0 where
  pub lengths : map length scope.levels ≡ map length scope.tables
  pub depth : length outside ≡ scope.depth
  pub main : (entry : ℕ) → named entry ≡ true → IsTableOf scope outside 0 entry
  pub inner : (level entry : ℕ) → IsTableOf scope outside (suc level) entry

pub fewer : (scope : Scope) (outside : List ℕ) (named less : ℕ → Bool) → ((entry : ℕ) → less entry ≡ true → named entry ≡ true) → AreOutside scope outside named → AreOutside scope outside less
fewer scope outside named less leads are = record {
  lengths = are.lengths;
  depth = are.depth;
  main = λ entry is. are.main entry (leads entry is);
  inner = are.inner;
}

pub one_inside : (scope : Scope) (outside own : List ℕ) (named : ℕ → Bool) → AreOutside scope outside named → AreOutside (inside scope own) (outside ++ own) named
one_inside scope outside own named are =
    let variables = from_number scope.depth (length own) in
    let here = λ (entry : ℕ). own_tables outside own scope.depth entry are.depth in
    record {
      lengths = lengths_inside scope.levels scope.tables variables own are.lengths (length_from scope.depth (length own));
      depth = length-append outside own ∙ ap (λ n. n + length own) are.depth;
      main = λ entry is. level_inside outside own variables here scope.levels scope.tables are.lengths 0 entry (are.main entry is);
      inner = λ level entry. level_inside outside own variables here scope.levels scope.tables are.lengths (suc level) entry (are.inner level entry);
    }
