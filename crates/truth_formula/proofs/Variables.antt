-- What stands at a level, where a level is added inside.
use Rattle.std.proofs.Common.{◌≡◌, ◌+◌, ◌<◌, ◌≤◌, ◌∙◌, ◌⊎◌, inl, inr, ap, refl, sym, ℕ, zero, suc, List, [], ◌∷◌, ◌++◌, length, arith}
use Rattle.std.proofs.lemmas.List.{length-append, length-map}
use Rattle.std.proofs.lemmas.Bool.{cases_lt}
use Rattle.std.proofs.lemmas.Option.{slice_get-map, slice_get_past}
use Rattle.std.specs.Borrow.{Bor}
use Rattle.std.specs.Prelude.{Some, None, option_map, slice_get}
use Rattle.lint_base.proofs.Lists.{get_before, slice_get_last}
use Rattle.lint_core.specs.Database.{below}
use Rattle.lint_core.specs.Fits.{tables_of}
use Rattle.lint_core.specs.declared.condition.Entry.{Entry}
use Rattle.sort_formula.specs.Sides.{from_number}
use Rattle.truth_formula.specs.inner.Standing.{Numbered, numbered, numbered_step}
use Rattle.truth_formula.specs.declared.standing.Variables.{Variables, fold-roll-Variables}
use Rattle.truth_formula.specs.declared.standing.Variables.TheOpen.{Variables-F}
use Rattle.truth_formula.specs.declared.standing.Variables.TheVariants as variables

pub numbered_inside : (entries : Bor (List Entry)) (outer : Bor Variables) → numbered (variables.Inside entries outer) ≡ record {
  levels = (numbered outer.now).levels ++ from_number (numbered outer.now).depth (length (tables_of entries.now)) ∷ [];
  depth = (numbered outer.now).depth + length (tables_of entries.now);
}
numbered_inside entries outer = ap numbered (sym (variables.rolls-Inside entries outer)) ∙ fold-roll-Variables Numbered numbered_step (Variables-F.Inside entries outer)

-- ---- the numbers from a number on

length_below : (n : ℕ) → length (below n) ≡ n
length_below zero = refl
length_below (suc n) = length-append (below n) (n ∷ []) ∙ omega (arith, length_below n)

-- the next number, where those before it are given
get_next : (n i : ℕ) → i < suc n → (i < n → slice_get (below n) i ≡ Some i) → (i < n) ⊎ (n ≤ i) → slice_get (below n ++ n ∷ []) i ≡ Some i
get_next n i low before (inl early) = get_before (below n) (n ∷ []) i (omega (arith, length_below n)) ∙ before early
get_next n i low before (inr last) =
    let same : i ≡ n = omega arith in
    ap (slice_get (below n ++ n ∷ [])) (same ∙ sym (length_below n)) ∙ (slice_get_last (below n) n ∙ ap Some (sym same))

get_below : (n i : ℕ) → i < n → slice_get (below n) i ≡ Some i
get_below zero i low = absurd (omega arith)
get_below (suc n) i low = get_next n i low (get_below n i) (cases_lt i n)

pub number_within : (first count i : ℕ) → i < count → slice_get (from_number first count) i ≡ Some (first + i)
number_within first count i low = slice_get-map (λ k. first + k) (below count) i ∙ ap (option_map (λ k. first + k)) (get_below count i low)

pub number_past : (first count i : ℕ) → count ≤ i → slice_get (from_number first count) i ≡ None
number_past first count i high = slice_get_past (from_number first count) i (omega (arith, length-map (below count) (λ k. first + k), length_below count))

pub length_tables : (entries : List Entry) → length (tables_of entries) ≡ length entries
length_tables entries = length-map entries (λ (e : Entry). e.table)
