-- One entry among the others: what stands at the other places, and what follows of decided truths.
use Rattle.std.proofs.Common.{◌≡◌, ◌∙◌, ◌<◌, ◌≤◌, refl, sym, ap, ap₂, ℕ, zero, suc, Bool, true, false, ◌&&◌, not, List, [], ◌∷◌, length, map, nat_eq, if◌then◌else◌, arith}
use Rattle.std.proofs.lemmas.List.Folds.{list_all-map}
use Rattle.std.specs.List.{list_all, list_any, filter}
use Rattle.std.specs.Prelude.{Ok, Some, slice_get, unwrap_or, insert, remove}
use Rattle.lint_base.proofs.Lists.{and_true, not_or}
use Rattle.lint_core.specs.declared.database.Truth.{Truth}
use Rattle.lint_core.specs.Evaluation.{Evaluated, and_then, map_ok, all_ok}
use Rattle.lint_core.specs.Points.{are_same_rows}
use Rattle.lint_core.specs.Question.{all_true}
use Rattle.lint_core.specs.Truth.{is_true, truth_of}
use Rattle.formula_laws.proofs.LeadRows.{same_as_itself}
use Rattle.counter_laws.proofs.Loosely.{truth_is}

-- the place among the others of what stands at this place
abbrev pub moved : ℕ → ℕ → ℕ
moved zero zero = zero
moved zero (suc place) = place
moved (suc entry) zero = zero
moved (suc entry) (suc place) = suc (moved entry place)

pub insert_other : (xs : List ℕ) (entry x place : ℕ) → entry ≤ length xs → (place ≡ entry → ⊥) → slice_get (insert xs entry x) place ≡ slice_get xs (moved entry place)
insert_other xs zero x zero low other = absurd (other refl)
insert_other xs zero x (suc place) low other = refl
insert_other [] (suc entry) x place low other = absurd (omega (arith, low))
insert_other (y ∷ xs) (suc entry) x zero low other = refl
insert_other (y ∷ xs) (suc entry) x (suc place) low other = insert_other xs entry x place (omega (arith, low)) (λ same. other (ap suc same))

pub insert_here : (xs : List ℕ) (entry x : ℕ) → entry ≤ length xs → slice_get (insert xs entry x) entry ≡ Some x
insert_here xs zero x low = refl
insert_here [] (suc entry) x low = absurd (omega (arith, low))
insert_here (y ∷ xs) (suc entry) x low = insert_here xs entry x (omega (arith, low))

pub remove_other : (xs : List ℕ) (entry place : ℕ) → entry < length xs → (place ≡ entry → ⊥) → slice_get xs place ≡ slice_get (remove xs entry) (moved entry place)
remove_other [] entry place low other = absurd (omega (arith, low))
remove_other (y ∷ xs) zero zero low other = absurd (other refl)
remove_other (y ∷ xs) zero (suc place) low other = refl
remove_other (y ∷ xs) (suc entry) zero low other = refl
remove_other (y ∷ xs) (suc entry) (suc place) low other = remove_other xs entry place (omega (arith, low)) (λ same. other (ap suc same))

pub entry_here : (xs : List ℕ) (entry : ℕ) → entry < length xs → slice_get xs entry ≡ Some (unwrap_or (slice_get xs entry) 0)
entry_here [] entry low = absurd (omega (arith, low))
entry_here (x ∷ xs) zero low = refl
entry_here (x ∷ xs) (suc entry) low = entry_here xs entry (omega (arith, low))

-- two rows of one entry, the others the same
pub same_inserted : (xs : List ℕ) (entry x y : ℕ) → entry ≤ length xs → are_same_rows (insert xs entry x) (insert xs entry y) ≡ nat_eq x y
same_inserted xs zero x y low = ap (λ b. nat_eq x y && b) (same_as_itself xs) ∙ and_true (nat_eq x y)
same_inserted [] (suc entry) x y low = absurd (omega (arith, low))
same_inserted (z ∷ xs) (suc entry) x y low =
    ap (λ b. b && are_same_rows (insert xs entry x) (insert xs entry y)) (first z (same_as_itself (z ∷ []))) ∙ same_inserted xs entry x y (omega (arith, low))
  where
    first : (z : ℕ) → (nat_eq z z && true) ≡ true → nat_eq z z ≡ true
    first z same = sym (and_true (nat_eq z z)) ∙ same

-- ---- tests of lists

and_over : (a b c : Bool) → (a && (b && c)) ≡ (b && (a && c))
and_over true b c = refl
and_over false true c = refl
and_over false false c = refl

-- of those that pass another test, and of the others
pub all_divided : {A : Type 0} (p q : A → Bool) (xs : List A) → list_all p xs ≡ (list_all p (filter (λ x. not (q x)) xs) && list_all p (filter q xs))
all_divided p q [] = refl
all_divided p q (x ∷ xs) =
    elim (q x) as (λ b. (p x && list_all p xs) ≡ (list_all p (if not b then x ∷ filter (λ x. not (q x)) xs else filter (λ x. not (q x)) xs) && list_all p (if b then x ∷ filter q xs else filter q xs))) [
      | true ↦ ap (λ b. p x && b) (all_divided p q xs) ∙ and_over (p x) (list_all p (filter (λ x. not (q x)) xs)) (list_all p (filter q xs))
      | false ↦ ap (λ b. p x && b) (all_divided p q xs) ∙ and_first (p x) (list_all p (filter (λ x. not (q x)) xs)) (list_all p (filter q xs))
    ]
  where
    and_first : (a b c : Bool) → (a && (b && c)) ≡ ((a && b) && c)
    and_first true b c = refl
    and_first false b c = refl

pub none_of : {A : Type 0} (p : A → Bool) (xs : List A) → list_all (λ x. not (p x)) xs ≡ not (list_any p xs)
none_of p [] = refl
none_of p (x ∷ xs) = ap (λ b. not (p x) && b) (none_of p xs) ∙ sym (not_or (p x) (list_any p xs))

-- ---- decided truths

-- the first, and the others behind it
abbrev behind : {A : Type 0} → Evaluated A → Evaluated (List A) → Evaluated (List A)
behind x later = and_then (λ here. map_ok (λ later. here ∷ later) later) x

pub all_known : {A B : Type 0} (f : A → Evaluated B) (g : A → B) → ((x : A) → f x ≡ Ok (g x)) → (xs : List A) → all_ok (map f xs) ≡ Ok (map g xs)
all_known f g known [] = refl
all_known f g known (x ∷ xs) = ap₂ behind (known x) (all_known f g known xs)

abbrev decided : {A : Type 0} → (A → Bool) → A → Evaluated Truth
decided g x = Ok (truth_of (g x))

truths_listed : {A : Type 0} (g : A → Bool) (xs : List A) → all_ok (map (map_ok is_true) (map (decided g) xs)) ≡ Ok (map g xs)
truths_listed g [] = refl
truths_listed g (x ∷ xs) = ap₂ behind (ap Ok (truth_is (g x))) (truths_listed g xs)

pub truths_known : {A : Type 0} (g : A → Bool) (xs : List A) → all_true (map (decided g) xs) ≡ Ok (list_all g xs)
truths_known g xs = ap (map_ok (list_all (λ fact. fact))) (truths_listed g xs) ∙ ap Ok (list_all-map (λ fact. fact) g xs)
