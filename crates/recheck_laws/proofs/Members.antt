-- Elements of lists that are put together of several, and of the first ones of a list.
use Rattle.std.proofs.Common.{◌≡◌, ◌∙◌, refl, ap, ℕ, zero, suc, ◌<◌, ◌⊎◌, inl, inr, Bool, true, false, ◌||◌, List, [], ◌∷◌, ◌++◌, take, arith}
use Rattle.std.proofs.lemmas.List.Folds.{list_any-append}
use Rattle.std.proofs.lemmas.Option.{same_Some}
use Rattle.std.specs.Prelude.{Some, slice_get}
use Rattle.std.specs.List.{list_any, flat_map}

-- an element stands in one of the two
in_either : {A : Type 0} (xs ys : List A) (place : ℕ) (x : A) → slice_get (xs ++ ys) place ≡ Some x →
    ((i : ℕ) × (slice_get xs i ≡ Some x)) ⊎ ((i : ℕ) × (slice_get ys i ≡ Some x))
in_either [] ys place x at = inr (place, at)
in_either (z ∷ zs) ys zero x at = inl (0, at)
in_either (z ∷ zs) ys (suc place) x at = elim (in_either zs ys place x at) [ inl here ↦ inl (suc here.0, here.1) | inr there ↦ inr there ]

-- where an element of a list of parts stands
pub record StandsIn {A B : Type 0} (parts : A → List B) (xs : List A) (y : B) : Type 0 where
  pub place : ℕ
  pub whole : A
  pub whole_at : slice_get xs place ≡ Some whole
  pub within : ℕ
  pub at : slice_get (parts whole) within ≡ Some y

pub from_parts : {A B : Type 0} (parts : A → List B) (xs : List A) (place : ℕ) (y : B) → slice_get (flat_map parts xs) place ≡ Some y → StandsIn parts xs y
from_parts parts [] place y at = cc
from_parts parts (x ∷ xs) place y at =
    elim (in_either (parts x) (flat_map parts xs) place y at) [
      | inl here ↦ record { place = 0; whole = x; whole_at = refl; within = here.0; at = here.1 }
      | inr there ↦
          let rest = from_parts parts xs there.0 y there.1 in
          record { place = suc rest.place; whole = rest.whole; whole_at = rest.whole_at; within = rest.within; at = rest.at }
    ]

or_true : (b : Bool) → (b || true) ≡ true
or_true true = refl
or_true false = refl

-- one element settles that some does
pub any_in : {A : Type 0} (test : A → Bool) (xs : List A) (place : ℕ) (x : A) → slice_get xs place ≡ Some x → test x ≡ true → list_any test xs ≡ true
any_in test [] place x at is = cc
any_in test (z ∷ zs) zero x at is = ap (λ b. b || list_any test zs) (ap test (same_Some z x at) ∙ is)
any_in test (z ∷ zs) (suc place) x at is = ap (λ b. test z || b) (any_in test zs place x at is) ∙ or_true (test z)

pub any_in_parts : {A B : Type 0} (test : B → Bool) (parts : A → List B) (xs : List A) (place : ℕ) (x : A) → slice_get xs place ≡ Some x →
    list_any test (parts x) ≡ true → list_any test (flat_map parts xs) ≡ true
any_in_parts test parts [] place x at is = cc
any_in_parts test parts (z ∷ zs) zero x at is =
    list_any-append test (parts z) (flat_map parts zs)
    ∙ ap (λ b. b || list_any test (flat_map parts zs)) (ap (λ w. list_any test (parts w)) (same_Some z x at) ∙ is)
any_in_parts test parts (z ∷ zs) (suc place) x at is =
    list_any-append test (parts z) (flat_map parts zs)
    ∙ (ap (λ b. list_any test (parts z) || b) (any_in_parts test parts zs place x at is) ∙ or_true (list_any test (parts z)))

-- the first ones of a list
pub taken_at : {A : Type 0} (xs : List A) (n i : ℕ) (x : A) → i < n → slice_get xs i ≡ Some x → slice_get (take n xs) i ≡ Some x
taken_at xs zero i x low at = absurd (omega arith)
taken_at [] (suc n) i x low at = cc
taken_at (z ∷ zs) (suc n) zero x low at = at
taken_at (z ∷ zs) (suc n) (suc i) x low at = taken_at zs n i x (omega arith) at

pub of_taken : {A : Type 0} (xs : List A) (n i : ℕ) (x : A) → slice_get (take n xs) i ≡ Some x → (i < n) × (slice_get xs i ≡ Some x)
of_taken xs zero i x at = cc
of_taken [] (suc n) i x at = cc
of_taken (z ∷ zs) (suc n) zero x at = (omega arith, at)
of_taken (z ∷ zs) (suc n) (suc i) x at =
    let rest = of_taken zs n i x at in
    let low : i < n = rest.0 in
    (omega arith, rest.1)
