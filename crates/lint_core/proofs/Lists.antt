-- The numbers below a number.
use Rattle.std.proofs.Common.{◌≡◌, add-one, ◌+◌, ◌<◌, ◌∙◌, sym, ap, refl, subst, ℕ, zero, suc, Bool, true, false, ◌||◌, ◌⊎◌, inl, inr, [], ◌∷◌, length, arith}
use Rattle.std.proofs.lemmas.Bool.{cases_lt, or_cases, or_left, or_right}
use Rattle.std.proofs.lemmas.Bool.Decides.{nat_tests}
use Rattle.std.proofs.lemmas.List.{length-append}
use Rattle.std.proofs.lemmas.List.Folds.{list_any-append}
use Rattle.std.specs.Prelude.{Some, slice_get, nat_lt}
use Rattle.std.specs.List.{list_any}
use Rattle.lint_base.proofs.Lists.{slice_get_front, slice_get_last}
use Rattle.lint_core.specs.Database.{below}

pub below_wider : (k n : ℕ) → nat_lt k n ≡ true → nat_lt k (suc n) ≡ true
below_wider k n h = grind (arith, nat_tests)

pub below_last : (n : ℕ) → nat_lt n (suc n) ≡ true
below_last n = grind (arith, nat_tests)

below_split : (k n : ℕ) → nat_lt k (suc n) ≡ true → (nat_lt k n ≡ true) ⊎ (k ≡ n)
below_split k n h = grind (arith, nat_tests)

none_below : (k : ℕ) → nat_lt k zero ≡ true → ⊥
none_below k h = grind (arith, nat_tests)

-- a number below n passes the test where one of them does
pub some_below : (p : ℕ → Bool) (n : ℕ) → list_any p (below n) ≡ true → (k : ℕ) × (nat_lt k n ≡ true) × (p k ≡ true)
some_below p zero h = cc
some_below p (suc n) h =
    elim (or_cases (list_any p (below n)) (p n || false) (sym (list_any-append p (below n) (n ∷ [])) ∙ h)) [
      | inl early ↦ let found = some_below p n early in (found.0, below_wider found.0 n found.1, found.2)
      | inr late ↦ (n, below_last n, elim (or_cases (p n) false late) [ inl here ↦ here | inr never ↦ cc ])
    ]

pub any_below : (p : ℕ → Bool) (n k : ℕ) → nat_lt k n ≡ true → p k ≡ true → list_any p (below n) ≡ true
any_below p zero k low passes = absurd (none_below k low)
any_below p (suc n) k low passes =
    list_any-append p (below n) (n ∷ [])
    ∙ elim (below_split k n low) [
      | inl less ↦ or_left (list_any p (below n)) (p n || false) (any_below p n k less passes)
      | inr same ↦ or_right (list_any p (below n)) (p n || false) (or_left (p n) false (subst (λ k. p k ≡ true) same passes))
    ]

length_below : (n : ℕ) → length (below n) ≡ n
length_below zero = refl
length_below (suc n) = length-append (below n) (n ∷ []) ∙ (ap (λ k. k + 1) (length_below n) ∙ add-one n)

-- a number stands at its own place
pub below_at : (n k : ℕ) → k < n → slice_get (below n) k ≡ Some k
below_at zero k low = absurd (omega arith)
below_at (suc n) k low =
    elim (cases_lt k n) [
      | inl less ↦ slice_get_front (below n) (n ∷ []) k k (below_at n k less)
      | inr more ↦
          let same : k ≡ n = omega arith in
          let last : slice_get (below (suc n)) n ≡ Some n = ap (slice_get (below (suc n))) (sym (length_below n)) ∙ slice_get_last (below n) n in
          subst (λ k. slice_get (below (suc n)) k ≡ Some k) (sym same) last
    ]
