-- One more element of a list in a loop.
use Rattle.std.proofs.Common.{◌≡◌, ◌∙◌, sym, ap, refl, ℕ, zero, suc, ◌+◌, ◌-◌, ◌<◌, get_or, List, [], ◌∷◌, ◌++◌, length, take, drop, append_assoc, arith}
use Rattle.std.proofs.Math.Seq.{take-length}
use Rattle.std.proofs.lemmas.List.{length-drop}
use Rattle.std.proofs.lemmas.Option.{same_Some}
use Rattle.std.specs.List.{flat_map}
use Rattle.std.specs.Prelude.{Some, slice_get}

pub take_rest : {A : Type 0} (n : ℕ) (xs : List A) → take (length xs - n) (drop n xs) ≡ drop n xs
take_rest n xs = ap (λ m. take m (drop n xs)) (sym (length-drop n xs)) ∙ take-length (drop n xs)

module _ {A : Type 0} where
  pub get_some : (xs : List A) (i : ℕ) (x : A) → i < length xs → x ≡ get_or xs i x → slice_get xs i ≡ Some x
  get_some [] i x low is = absurd (omega arith)
  get_some (y ∷ ys) zero x low is = ap Some (sym is)
  get_some (y ∷ ys) (suc i) x low is = get_some ys i x (omega arith) is

  pub drop_next : (xs : List A) (i : ℕ) (x : A) → slice_get xs i ≡ Some x → drop i xs ≡ x ∷ drop (i + 1) xs
  drop_next xs i x at = let one : suc i ≡ i + 1 = omega arith in next xs i x at ∙ ap (λ n. x ∷ drop n xs) one
    where
      next : (xs : List A) (i : ℕ) (x : A) → slice_get xs i ≡ Some x → drop i xs ≡ x ∷ drop (suc i) xs
      next [] i x at = cc
      next (y ∷ ys) zero x at = ap (λ z. z ∷ ys) (same_Some y x at)
      next (y ∷ ys) (suc i) x at = next ys i x at

  pub take_next : (xs : List A) (i : ℕ) (x : A) → slice_get xs i ≡ Some x → take (i + 1) xs ≡ take i xs ++ x ∷ []
  take_next xs i x at = let one : i + 1 ≡ suc i = omega arith in ap (λ n. take n xs) one ∙ next xs i x at
    where
      next : (xs : List A) (i : ℕ) (x : A) → slice_get xs i ≡ Some x → take (suc i) xs ≡ take i xs ++ x ∷ []
      next [] i x at = cc
      next (y ∷ ys) zero x at = ap (λ z. z ∷ []) (same_Some y x at)
      next (y ∷ ys) (suc i) x at = ap (λ zs. y ∷ zs) (next ys i x at)

  pub flat_next : {B : Type 0} (f : A → List B) (xs : List A) (i : ℕ) (x : A) (done more whole : List B) → slice_get xs i ≡ Some x → done ++ flat_map f (drop i xs) ≡ whole → more ≡ done ++ f x →
      more ++ flat_map f (drop (i + 1) xs) ≡ whole
  flat_next f xs i x done more whole at all is =
      ap (λ ys. ys ++ flat_map f (drop (i + 1) xs)) is
      ∙ (append_assoc done (f x) (flat_map f (drop (i + 1) xs))
      ∙ (sym (ap (λ ys. done ++ flat_map f ys) (drop_next xs i x at)) ∙ all))

  pub no_elements : (xs : List A) → length xs ≡ 0 → xs ≡ []
  no_elements [] none = refl
  no_elements (x ∷ xs) none = absurd (omega arith)

-- a number at its place
pub get_number : (xs : List ℕ) (i : ℕ) → i < length xs → slice_get xs i ≡ Some (get_or xs i 0)
get_number [] i low = absurd (omega arith)
get_number (x ∷ xs) zero low = refl
get_number (x ∷ xs) (suc i) low = get_number xs i (omega arith)
