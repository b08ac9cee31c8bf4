-- What stands in a list: after a map, a filter, among the numbers below a number.
use Rattle.std.proofs.Common.{◌≡◌, ◌<◌, ◌⊎◌, inl, inr, refl, sym, ap, subst, ℕ, zero, suc, Bool, true, false, List, [], ◌∷◌, ◌++◌, length, map, arith}
use Rattle.std.proofs.lemmas.Bool.{cases_lt, false≢true}
use Rattle.std.specs.Prelude.{Contains, cond, slice_index_or}
use Rattle.std.specs.List.{filter, flat_map}
use Rattle.lint_core.specs.Database.{below}

abbrev pub Stands : {A : Type 0} → A → List A → Type 0
Stands x [] = ⊥
Stands x (y ∷ ys) = (y ≡ x) ⊎ Stands x ys

pub stands_front : {A : Type 0} (x : A) (xs ys : List A) → Stands x xs → Stands x (xs ++ ys)
stands_front x [] ys here = absurd here
stands_front x (y ∷ xs) ys (inl same) = inl same
stands_front x (y ∷ xs) ys (inr more) = inr (stands_front x xs ys more)

pub stands_behind : {A : Type 0} (x : A) (xs ys : List A) → Stands x ys → Stands x (xs ++ ys)
stands_behind x [] ys here = here
stands_behind x (y ∷ xs) ys here = inr (stands_behind x xs ys here)

pub stands_map : {A B : Type 0} (f : A → B) (x : A) (xs : List A) → Stands x xs → Stands (f x) (map f xs)
stands_map f x [] here = here
stands_map f x (y ∷ xs) (inl same) = inl (ap f same)
stands_map f x (y ∷ xs) (inr more) = inr (stands_map f x xs more)

pub stands_flat_map : {A B : Type 0} (f : A → List B) (x : A) (y : B) (xs : List A) → Stands x xs → Stands y (f x) → Stands y (flat_map f xs)
stands_flat_map f x y [] here inside = absurd here
stands_flat_map f x y (z ∷ xs) (inl same) inside = stands_front y (f z) (flat_map f xs) (subst (λ w. Stands y (f w)) (sym same) inside)
stands_flat_map f x y (z ∷ xs) (inr more) inside = stands_behind y (f z) (flat_map f xs) (stands_flat_map f x y xs more inside)

pub stands_below : (n k : ℕ) → k < n → Stands k (below n)
stands_below zero k low = absurd (omega arith)
stands_below (suc n) k low =
    elim (cases_lt k n) [
      | inl less ↦ stands_front k (below n) (n ∷ []) (stands_below n k less)
      | inr more ↦ stands_behind k (below n) (n ∷ []) (inl (omega arith))
    ]

-- ---- a filter

kept : {A : Type 0} (p : A → Bool) (x y : A) (ys : List A) (b : Bool) → (y ≡ x) ⊎ Stands x ys → (y ≡ x → b ≡ true) → Stands x (cond b (y ∷ ys) ys)
kept p x y ys true here passes = here
kept p x y ys false (inl same) passes = absurd (false≢true (passes same))
kept p x y ys false (inr more) passes = more

pub stands_filter : {A : Type 0} (p : A → Bool) (x : A) (xs : List A) → p x ≡ true → Stands x xs → Stands x (filter p xs)
stands_filter p x [] passes here = here
stands_filter p x (y ∷ xs) passes (inl same) = kept p x y (filter p xs) (p y) (inl same) (λ e. subst (λ z. p z ≡ true) (sym e) passes)
stands_filter p x (y ∷ xs) passes (inr more) =
    kept p x y (filter p xs) (p y) (inr (stands_filter p x xs passes more)) (λ e. subst (λ z. p z ≡ true) (sym e) passes)

found : {A : Type 0} (x y : A) (ys : List A) (b : Bool) → Stands x (cond b (y ∷ ys) ys) → ((b ≡ true) × (y ≡ x)) ⊎ Stands x ys
found x y ys true (inl same) = inl (refl, same)
found x y ys true (inr more) = inr more
found x y ys false here = inr here

pub filter_passes : {A : Type 0} (p : A → Bool) (x : A) (xs : List A) → Stands x (filter p xs) → p x ≡ true
filter_passes p x [] here = absurd here
filter_passes p x (y ∷ xs) here =
    elim (found x y (filter p xs) (p y) here) [
      | inl both ↦ subst (λ z. p z ≡ true) both.1 both.0
      | inr more ↦ filter_passes p x xs more
    ]

-- ---- as std says it

pub stands_contains : {A : Type 0} (x : A) (xs : List A) → Stands x xs → Contains xs x
stands_contains x [] here = absurd here
stands_contains x (y ∷ xs) (inl same) = (zero, omega arith, same)
stands_contains x (y ∷ xs) (inr more) = let at = stands_contains x xs more in (suc at.0, omega (arith, at.1), at.2)

pub contains_stands : {A : Type 0} (x : A) (xs : List A) (k : ℕ) → k < length xs → slice_index_or xs k x ≡ x → Stands x xs
contains_stands x [] k low at = absurd (omega (arith, low))
contains_stands x (y ∷ xs) zero low at = inl at
contains_stands x (y ∷ xs) (suc k) low at = inr (contains_stands x xs k (omega (arith, low)) at)
