-- What holds of elements of lists that pass tests.
use Rattle.std.proofs.Common.{◌≡◌, refl, ℕ, zero, suc, Bool, true, false, List, [], ◌∷◌, map, if◌then◌else◌}
use Rattle.std.specs.List.{AllByRecursion, filter, list_all}
use Rattle.std.specs.Option.{option_map_or}
use Rattle.std.specs.Prelude.{Option, None, Some, slice_get, remove}
use Rattle.lint_base.proofs.Lists.{both_left, both_right}
use Rattle.lint_core.specs.Asked.{test_two}
use Rattle.truth_laws.proofs.Fitting.{both_are}

-- what is made of those that pass a test, of a list that passes another
module _ {A B : Type 0} (p q : A → Bool) (g : A → B) (P : B → Type 0) (each : (x : A) → p x ≡ true → q x ≡ true → P (g x)) where
  kept : (x : A) (b : Bool) → q x ≡ b → (xs : List A) → p x ≡ true → AllByRecursion P (map g xs) → AllByRecursion P (map g (if b then x ∷ xs else xs))
  kept x true is xs passes rest = (each x passes is, rest)
  kept x false is xs passes rest = rest

  pub every_filtered : (xs : List A) → list_all p xs ≡ true → AllByRecursion P (map g (filter q xs))
  every_filtered [] all = tt
  every_filtered (x ∷ xs) all = kept x (q x) refl (filter q xs) (both_left (p x) (list_all p xs) all) (every_filtered xs (both_right (p x) (list_all p xs) all))

-- the two elements of which a test says yes
pub record TwoThere {A : Type 0} (test : A → A → Bool) (one other : Option A) : Type 0 where
  pub first : A
  pub second : A
  pub one_is : one ≡ Some first
  pub other_is : other ≡ Some second
  pub passes : test first second ≡ true

two_options : {A : Type 0} (test : A → A → Bool) (one other : Option A) → option_map_or (λ x. option_map_or (test x) other false) one false ≡ true → TwoThere test one other
two_options test None other is = cc
two_options test (Some x) None is = cc
two_options test (Some x) (Some y) is = record { first = x; second = y; one_is = refl; other_is = refl; passes = is }

pub two_there : {A : Type 0} (test : A → A → Bool) (xs : List A) (i j : ℕ) → test_two test xs i j ≡ true → TwoThere test (slice_get xs i) (slice_get xs j)
two_there test xs i j is = two_options test (slice_get xs i) (slice_get xs j) is

-- without one of them
pub remove_passes : (p : ℕ → Bool) (xs : List ℕ) (i : ℕ) → list_all p xs ≡ true → list_all p (remove xs i) ≡ true
remove_passes p [] zero all = refl
remove_passes p [] (suc i) all = refl
remove_passes p (x ∷ xs) zero all = both_right (p x) (list_all p xs) all
remove_passes p (x ∷ xs) (suc i) all =
    both_are (p x) (list_all p (remove xs i)) (both_left (p x) (list_all p xs) all) (remove_passes p xs i (both_right (p x) (list_all p xs) all))
