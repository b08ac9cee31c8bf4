-- What loops over rows and over numbered parts have found so far, and what is then the first of all.
use Rattle.std.proofs.Common.{◌≡◌, ◌∙◌, sym, ap, refl, ℕ, zero, suc, ◌+◌, ◌<◌, add-one, Bool, true, false, ◌&&◌, ◌||◌, cond, List, [], ◌∷◌, ◌++◌, length, map, drop, get_or, arith, append_assoc, inl, inr}
use Rattle.std.proofs.lemmas.Bool.{cases_lt, or_left, or_right}
use Rattle.std.proofs.Math.Seq.{drop-cons}
use Rattle.std.proofs.lemmas.Bool.Decides.{nat_tests}
use Rattle.std.proofs.lemmas.List.{map-append}
use Rattle.std.proofs.lemmas.List.Elements.{filter-append}
use Rattle.std.proofs.lemmas.List.Folds.{list_any-append}
use Rattle.std.proofs.lemmas.Grind.{flat_map-append}
use Rattle.std.specs.Prelude.{Option, Some, None, slice_get, nat_eq}
use Rattle.std.specs.Cmp.Lexicographic.{pointwise}
use Rattle.std.specs.List.{filter, flat_map, list_all, list_any, zip}
use Rattle.lint_core.specs.declared.database.Database.{Database}
use Rattle.lint_core.specs.Comparison.{are_equal}
use Rattle.lint_core.specs.Meets.{value_in, agree}
use Rattle.lint_core.specs.Database.{Place, below}
use Rattle.lint_core.specs.declared.database.Violation.{Violation}
use Rattle.sql_meaning.specs.Violations.{numbered}

-- a number below n splits the numbers below n
split : (i n : ℕ) → i < n → (rest : List ℕ) × (below n ≡ below i ++ i ∷ rest)
split i zero low = absurd (omega arith)
split i (suc n) low =
    elim (cases_lt i n) [
      | inl less ↦
          let early = split i n less in
          (early.0 ++ n ∷ [], ap (λ numbers. numbers ++ n ∷ []) early.1 ∙ append_assoc (below i) (i ∷ early.0) (n ∷ []))
      | inr more ↦
          let same : i ≡ n = omega arith in
          ([], ap (λ k. below k ++ k ∷ []) (sym same))
    ]

module _ {A : Type 0} where
  pub first_of_found : (xs ys : List A) (x : A) → slice_get xs 0 ≡ Some x → slice_get (xs ++ ys) 0 ≡ Some x
  first_of_found [] ys x at = cc
  first_of_found (x' ∷ xs) ys x at = at

  pub first_of_none : (xs ys : List A) → slice_get xs 0 ≡ None → slice_get (xs ++ ys) 0 ≡ slice_get ys 0
  first_of_none [] ys at = refl
  first_of_none (x' ∷ xs) ys at = cc

  pub none_is_empty : (xs : List A) → None ≡ slice_get xs 0 → xs ≡ []
  none_is_empty [] at = refl
  none_is_empty (x ∷ xs) at = cc

  passes_first : (test : A → Bool) (x : A) (xs : List A) → test x ≡ true → filter test (x ∷ xs) ≡ x ∷ filter test xs
  passes_first test x xs passes = ap (λ b. cond b (x ∷ filter test xs) (filter test xs)) passes

  pub first_map : {B : Type 0} (f : A → B) (xs : List A) (x : A) → slice_get xs 0 ≡ Some x → slice_get (map f xs) 0 ≡ Some (f x)
  first_map f [] x at = cc
  first_map f (x' ∷ xs) x at = let same : x' ≡ x = cc in ap (λ x. Some (f x)) same

module _ (test : ℕ → Bool) where
  -- the row passes, and none before it
  pub row_found : (i n : ℕ) → filter test (below i) ≡ [] → test i ≡ true → i < n → slice_get (filter test (below n)) 0 ≡ Some i
  row_found i n none passes low =
      let parts = split i n low in
      let all : filter test (below n) ≡ filter test (below i) ++ filter test (i ∷ parts.0) = ap (filter test) parts.1 ∙ filter-append test (below i) (i ∷ parts.0) in
      let here : filter test (below n) ≡ i ∷ filter test parts.0 = all ∙ ap (λ xs. xs ++ filter test (i ∷ parts.0)) none ∙ passes_first test i parts.0 passes in
      ap (λ xs. slice_get xs 0) here

  pub violation_found : (violation : ℕ → Violation) (i n : ℕ) → filter test (below i) ≡ [] → test i ≡ true → i < n → slice_get (map violation (filter test (below n))) 0 ≡ Some (violation i)
  violation_found violation i n none passes low = first_map violation (filter test (below n)) i (row_found i n none passes low)

module _ (found : ℕ → List Violation) where
  pub list_found : (i n : ℕ) (violation : Violation) → flat_map found (below i) ≡ [] → slice_get (found i) 0 ≡ Some violation → i < n → slice_get (flat_map found (below n)) 0 ≡ Some violation
  list_found i n violation none at low =
      let parts = split i n low in
      let all : flat_map found (below n) ≡ flat_map found (below i) ++ flat_map found (i ∷ parts.0) = ap (flat_map found) parts.1 ∙ flat_map-append found (below i) (i ∷ parts.0) in
      let here : flat_map found (below n) ≡ found i ++ flat_map found parts.0 = all ∙ ap (λ xs. xs ++ flat_map found (i ∷ parts.0)) none in
      ap (λ xs. slice_get xs 0) here ∙ first_of_found (found i) (flat_map found parts.0) violation at

  pub list_passed : (i : ℕ) → flat_map found (below i) ≡ [] → found i ≡ [] → flat_map found (below (i + 1)) ≡ []
  list_passed i none empty =
      ap (λ k. flat_map found (below k)) (add-one i) ∙ flat_map-append found (below i) (i ∷ [])
      ∙ ap (λ xs. xs ++ (found i ++ [])) none ∙ ap (λ xs. xs ++ []) empty

module _ {B : Type 0} (at : ℕ → B) (test : B → Bool) where
  pub some_found : (i n : ℕ) → test (at i) ≡ true → i < n → list_any test (map at (below n)) ≡ true
  some_found i n passes low =
      let parts = split i n low in
      ap (λ numbers. list_any test (map at numbers)) parts.1 ∙ ap (list_any test) (map-append at (below i) (i ∷ parts.0))
      ∙ list_any-append test (map at (below i)) (at i ∷ map at parts.0)
      ∙ or_right (list_any test (map at (below i))) (test (at i) || list_any test (map at parts.0)) (or_left (test (at i)) (list_any test (map at parts.0)) passes)

-- a loop over parts that are numbered: what is found from this one on is the whole
module _ {A : Type 0} (found : ℕ → A → List Violation) (xs : List A) (whole : Option Violation) (i : ℕ) (x : A) where
  from_here : i < length xs → x ≡ get_or xs i x → numbered found i (drop i xs) ≡ found i x ++ numbered found (i + 1) (drop (i + 1) xs)
  from_here low is =
      ap (numbered found i) (drop-cons xs i x low)
      ∙ ap (λ y. found i y ++ numbered found (suc i) (drop (suc i) xs)) (sym is)
      ∙ ap (λ k. found i x ++ numbered found k (drop k xs)) (sym (add-one i))

  pub part_found : (violation : Violation) → slice_get (numbered found i (drop i xs)) 0 ≡ whole → i < length xs → x ≡ get_or xs i x → Some violation ≡ slice_get (found i x) 0 → Some violation ≡ whole
  part_found violation invariant low is here =
      sym (first_of_found (found i x) (numbered found (i + 1) (drop (i + 1) xs)) violation (sym here)) ∙ ap (λ vs. slice_get vs 0) (sym (from_here low is)) ∙ invariant

  pub part_passed : slice_get (numbered found i (drop i xs)) 0 ≡ whole → i < length xs → x ≡ get_or xs i x → None ≡ slice_get (found i x) 0 → slice_get (numbered found (i + 1) (drop (i + 1) xs)) 0 ≡ whole
  part_passed invariant low is none =
      sym (first_of_none (found i x) (numbered found (i + 1) (drop (i + 1) xs)) (sym none)) ∙ ap (λ vs. slice_get vs 0) (sym (from_here low is)) ∙ invariant

nat_eq-zero_suc : (n : ℕ) → nat_eq 0 (suc n) ≡ false
nat_eq-zero_suc n = grind (arith, nat_tests)

nat_eq-suc_zero : (n : ℕ) → nat_eq (suc n) 0 ≡ false
nat_eq-suc_zero n = grind (arith, nat_tests)

nat_eq-suc_suc : (m n : ℕ) → nat_eq (suc m) (suc n) ≡ nat_eq m n
nat_eq-suc_suc m n = grind (arith, nat_tests)

past_both : (a b c : Bool) → (a && (b && c)) ≡ (b && (a && c))
past_both true b c = refl
past_both false true c = refl
past_both false false c = refl

pub pointwise_zip : {A B : Type 0} (E : A → B → Bool) (xs : List A) (ys : List B) → pointwise E xs ys ≡ (nat_eq (length xs) (length ys) && list_all (λ pair. E pair.0 pair.1) (zip xs ys))
pointwise_zip E [] [] = refl
pointwise_zip E [] (y ∷ ys) = ap (λ b. b && true) (sym (nat_eq-zero_suc (length ys)))
pointwise_zip E (x ∷ xs) [] = ap (λ b. b && true) (sym (nat_eq-suc_zero (length xs)))
pointwise_zip E (x ∷ xs) (y ∷ ys) =
    ap (λ b. E x y && b) (pointwise_zip E xs ys) ∙ past_both (E x y) (nat_eq (length xs) (length ys)) (list_all (λ pair. E pair.0 pair.1) (zip xs ys))
    ∙ ap (λ b. b && (E x y && list_all (λ pair. E pair.0 pair.1) (zip xs ys))) (sym (nat_eq-suc_suc (length xs) (length ys)))

-- rows agree in pairs of columns that are as many and each equal
pub agree_paired : (db : Database) (place : Place) (columns : List ℕ) (other : Place) (others : List ℕ) →
    agree db place columns other others ≡ (nat_eq (length columns) (length others) && list_all (λ pair. are_equal (value_in db place pair.0) (value_in db other pair.1)) (zip columns others))
agree_paired db place columns other others = pointwise_zip (λ c d. are_equal (value_in db place c) (value_in db other d)) columns others
