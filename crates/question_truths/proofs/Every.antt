-- What holds of each element: by its place, and of what is made of each element.
use Rattle.std.proofs.Common.{◌≡◌, refl, subst, ℕ, zero, suc, List, [], ◌∷◌, map}
use Rattle.std.specs.Prelude.{Some, slice_get}
use Rattle.std.specs.List.{flat_map, AllByRecursion}
use Rattle.std.proofs.lemmas.Option.{same_Some}
use Rattle.lint_base.proofs.Lists.{every_parts}

module _ {A : Type 0} (P : A → Type 0) where
  pub every_by_place : (xs : List A) → ((i : ℕ) (x : A) → slice_get xs i ≡ Some x → P x) → AllByRecursion P xs
  every_by_place [] each = tt
  every_by_place (x ∷ xs) each = (each zero x refl, every_by_place xs (λ i y at. each (suc i) y at))

  pub every_map : {B : Type 0} (Q : B → Type 0) (g : B → A) → ((x : B) → Q x → P (g x)) → (xs : List B) → AllByRecursion Q xs → AllByRecursion P (map g xs)
  every_map Q g leads [] all = tt
  every_map Q g leads (x ∷ xs) all = (leads x all.0, every_map Q g leads xs all.1)

  pub every_of : {B : Type 0} (g : B → List A) (xs : List B) (i : ℕ) (x : B) → AllByRecursion P (flat_map g xs) → slice_get xs i ≡ Some x → AllByRecursion P (g x)
  every_of g [] i x all at = cc
  every_of g (y ∷ ys) zero x all at = subst (λ z. AllByRecursion P (g z)) (same_Some y x at) (every_parts P (g y) (flat_map g ys) all).0
  every_of g (y ∷ ys) (suc i) x all at = every_of g ys i x (every_parts P (g y) (flat_map g ys) all).1 at
