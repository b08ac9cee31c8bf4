-- The number of the first wrong step: it is there exactly where the steps do not close all branches, and it is that of the
-- first place at which what is next goes wrong.
use Rattle.std.proofs.Common.{◌≡◌, ◌∙◌, sym, ap, refl, subst, ℕ, zero, suc, ◌+◌, ◌≤◌, true, false, not, List, [], ◌∷◌, ◌++◌, length, take, arith}
use Rattle.std.proofs.lemmas.Option.{option_and_then_some, same_Some}
use Rattle.std.specs.Prelude.{Option, Some, None, is_some, is_none, slice_get, option_and_then}
use Rattle.std.specs.Option.{option_map_or}
use Rattle.lint_core.specs.declared.certificate.Step.{Step}
use Rattle.lint_core.specs.declared.schema.Table.{Table}
use Rattle.sort_formula.specs.Certificate.{children, branches_after, are_closed, goes_wrong, first_wrong}
use Rattle.sort_formula.specs.Facts.{Branch}

module _ (schema : List Table) where
  -- ---- where there is a number

  abbrev AreRight : ℕ → List Step → List Branch → Type 0
  AreRight number steps branches =
      option_map_or are_closed (branches_after schema steps branches) false ≡ not (is_some (first_wrong number schema steps branches))

  by_children : (number : ℕ) (steps : List Step) (bs : List Branch) (o : Option (List Branch)) → ((cs : List Branch) → AreRight (suc number) steps (cs ++ bs)) →
      option_map_or are_closed (option_and_then (λ cs. branches_after schema steps (cs ++ bs)) o) false
      ≡ not (is_some (option_map_or (λ cs. first_wrong (suc number) schema steps (cs ++ bs)) o (Some number)))
  by_children number steps bs None each = refl
  by_children number steps bs (Some cs) each = each cs

  pub are_right : (number : ℕ) (steps : List Step) (branches : List Branch) → AreRight number steps branches
  are_right number [] [] = refl
  are_right number [] (b ∷ bs) = refl
  are_right number (s ∷ steps) [] = refl
  are_right number (s ∷ steps) (b ∷ bs) = by_children number steps bs (children schema b s) (λ cs. are_right (suc number) steps (cs ++ bs))

  -- ---- what the number says

  -- so many steps are right in their turn, and what is next goes wrong
  abbrev pub Cause : ℕ → List Step → List Branch → ℕ → Type 0
  Cause number steps branches n =
      (before : ℕ) × (n ≡ number + before) × (before ≤ length steps)
      × (bs : List Branch) × (branches_after schema (take before steps) branches ≡ Some bs) × (goes_wrong schema (slice_get steps before) bs ≡ true)

  at_once : (number n : ℕ) → number ≡ n → n ≡ number + 0
  at_once number n same = omega arith

  cause_below : (number : ℕ) (s : Step) (steps : List Step) (b : Branch) (bs : List Branch) (n : ℕ) (o : Option (List Branch)) → children schema b s ≡ o →
      ((cs : List Branch) → first_wrong (suc number) schema steps (cs ++ bs) ≡ Some n → Cause (suc number) steps (cs ++ bs) n) →
      option_map_or (λ cs. first_wrong (suc number) schema steps (cs ++ bs)) o (Some number) ≡ Some n → Cause number (s ∷ steps) (b ∷ bs) n
  cause_below number s steps b bs n None made each at =
      (zero, at_once number n (same_Some number n at), omega arith, b ∷ bs, refl, ap is_none made)
  cause_below number s steps b bs n (Some cs) made each at =
      let rest = each cs at in
      let same : n ≡ suc number + rest.0 = rest.1 in
      let within : rest.0 ≤ length steps = rest.2 in (
        suc rest.0,
        omega arith,
        omega arith,
        rest.3,
        ap (option_and_then (λ cs. branches_after schema (take rest.0 steps) (cs ++ bs))) made ∙ rest.4,
        rest.5,
      )

  pub cause : (number : ℕ) (steps : List Step) (branches : List Branch) (n : ℕ) → first_wrong number schema steps branches ≡ Some n → Cause number steps branches n
  cause number [] [] n at = cc
  cause number [] (b ∷ bs) n at = (zero, at_once number n (same_Some number n at), omega arith, b ∷ bs, refl, refl)
  cause number (s ∷ steps) [] n at = (zero, at_once number n (same_Some number n at), omega arith, [], refl, refl)
  cause number (s ∷ steps) (b ∷ bs) n at =
      cause_below number s steps b bs n (children schema b s) refl (λ cs. cause (suc number) steps (cs ++ bs) n) at

  no_children : (o : Option (List Branch)) → is_none o ≡ true → o ≡ None
  no_children None none = refl
  no_children (Some cs) none = cc

  at_front : (number : ℕ) (steps : List Step) (branches : List Branch) → goes_wrong schema (slice_get steps 0) branches ≡ true →
      first_wrong number schema steps branches ≡ Some number
  at_front number [] [] wrong = cc
  at_front number [] (b ∷ bs) wrong = refl
  at_front number (s ∷ steps) [] wrong = refl
  at_front number (s ∷ steps) (b ∷ bs) wrong =
      ap (λ o. option_map_or (λ cs. first_wrong (suc number) schema steps (cs ++ bs)) o (Some number)) (no_children (children schema b s) wrong)

  -- no other number has this cause
  pub only_number : (number : ℕ) (steps : List Step) (branches : List Branch) (before : ℕ) → before ≤ length steps →
      (bs : List Branch) → branches_after schema (take before steps) branches ≡ Some bs → goes_wrong schema (slice_get steps before) bs ≡ true →
      first_wrong number schema steps branches ≡ Some (number + before)
  only_number number steps branches zero low bs right wrong =
      let same : branches ≡ bs = same_Some branches bs right in
      at_front number steps branches (subst (λ cs. goes_wrong schema (slice_get steps 0) cs ≡ true) (sym same) wrong) ∙ ap Some (at_once number number refl)
  only_number number [] branches (suc before) low bs right wrong = absurd (omega arith)
  only_number number (s ∷ steps) [] (suc before) low bs right wrong = cc
  only_number number (s ∷ steps) (b ∷ cs) (suc before) low bs right wrong =
      option_and_then_some (λ es. branches_after schema (take before steps) (es ++ cs)) (children schema b s) bs right
      (λ es made rest.
      let within : before ≤ length steps = omega arith in
      let count : suc number + before ≡ number + suc before = omega arith in
      ap (λ o. option_map_or (λ es. first_wrong (suc number) schema steps (es ++ cs)) o (Some number)) made
      ∙ (only_number (suc number) steps (es ++ cs) before within bs rest wrong ∙ ap Some count))
