-- What stands at a place of a list with an element inserted, or with one removed.
use Rattle.std.proofs.Common.{◌≡◌, ◌∙◌, ◌+◌, ◌-◌, ◌<◌, ◌≤◌, ap, sym, refl, subst, ℕ, zero, suc, List, [], ◌∷◌, ◌++◌, length, inl, inr, arith}
use Rattle.std.proofs.lemmas.Bool.{cases_lt}
use Rattle.std.proofs.lemmas.List.Edits.{length-remove}
use Rattle.std.proofs.lemmas.Option.{slice_get_past}
use Rattle.std.specs.Prelude.{Some, slice_get, insert, remove, option_and_then}
use Rattle.lint_base.proofs.Lists.{get_before}
use Rattle.sort_formula.specs.Sides.{from_number}
use Rattle.truth_laws.proofs.Outside.{length_from, variable_at, variable_past}

-- ---- one inserted

insert_before : (xs : List ℕ) (i x e : ℕ) → i ≤ length xs → e < i → slice_get (insert xs i x) e ≡ slice_get xs e
insert_before xs zero x e within low = absurd (omega arith)
insert_before [] (suc i) x e within low = absurd (omega arith)
insert_before (y ∷ ys) (suc i) x zero within low = refl
insert_before (y ∷ ys) (suc i) x (suc e) within low = insert_before ys i x e (omega arith) (omega arith)

insert_here : (xs : List ℕ) (i x : ℕ) → i ≤ length xs → slice_get (insert xs i x) i ≡ Some x
insert_here xs zero x within = refl
insert_here [] (suc i) x within = absurd (omega arith)
insert_here (y ∷ ys) (suc i) x within = insert_here ys i x (omega arith)

insert_behind : (xs : List ℕ) (i x e : ℕ) → i ≤ length xs → i ≤ e → slice_get (insert xs i x) (suc e) ≡ slice_get xs e
insert_behind xs zero x e within high = refl
insert_behind [] (suc i) x e within high = absurd (omega arith)
insert_behind (y ∷ ys) (suc i) x zero within high = absurd (omega arith)
insert_behind (y ∷ ys) (suc i) x (suc e) within high = insert_behind ys i x e (omega arith) (omega arith)

-- ---- one removed

remove_before : (xs : List ℕ) (i e : ℕ) → i < length xs → e < i → slice_get (remove xs i) e ≡ slice_get xs e
remove_before xs zero e within low = absurd (omega arith)
remove_before [] (suc i) e within low = absurd (omega arith)
remove_before (y ∷ ys) (suc i) zero within low = refl
remove_before (y ∷ ys) (suc i) (suc e) within low = remove_before ys i e (omega arith) (omega arith)

remove_behind : (xs : List ℕ) (i e : ℕ) → i < length xs → i ≤ e → slice_get (remove xs i) e ≡ slice_get xs (suc e)
remove_behind [] i e within high = absurd (omega arith)
remove_behind (y ∷ ys) zero e within high = refl
remove_behind (y ∷ ys) (suc i) zero within high = absurd (omega arith)
remove_behind (y ∷ ys) (suc i) (suc e) within high = remove_behind ys i e (omega arith) (omega arith)

-- ---- the entries of a FROM list, one of which has a variable behind those of the others

module _ (own : List ℕ) (entry : ℕ) (there : entry < length own) (outside more : List ℕ) (is : outside ≡ remove own entry ++ more) where
  abbrev others : List ℕ
  others = from_number 0 (length own - 1)

  others_long : length others ≡ length own - 1
  others_long = length_from 0 (length own - 1)

  removed_long : length (remove own entry) + 1 ≡ length own
  removed_long = length-remove own entry there

  -- the variable of another entry has its table
  other_at : (e : ℕ) → e < length own - 1 → option_and_then (slice_get outside) (slice_get others e) ≡ slice_get (remove own entry) e
  other_at e low =
      let same : 0 + e ≡ e = omega arith in
      ap (option_and_then (slice_get outside)) (variable_at 0 (length own - 1) e low)
      ∙ (ap (slice_get outside) same
      ∙ (ap (λ (tables : List ℕ). slice_get tables e) is
      ∙ get_before (remove own entry) more e (omega (arith, removed_long))))

  earlier_at : (variable e : ℕ) → e < entry → option_and_then (slice_get outside) (slice_get (insert others entry variable) e) ≡ slice_get own e
  earlier_at variable e low =
      ap (option_and_then (slice_get outside)) (insert_before others entry variable e (omega (arith, others_long)) low)
      ∙ (other_at e (omega arith) ∙ remove_before own entry e there low)

  later_at : (variable e : ℕ) → entry ≤ e → option_and_then (slice_get outside) (slice_get (insert others entry variable) (suc e)) ≡ slice_get own (suc e)
  later_at variable e high =
      ap (option_and_then (slice_get outside)) (insert_behind others entry variable e (omega (arith, others_long)) high)
      ∙ elim (cases_lt e (length own - 1)) [
        | inl low ↦ other_at e low ∙ remove_behind own entry e there high
        | inr far ↦ ap (option_and_then (slice_get outside)) (variable_past 0 (length own - 1) e far) ∙ sym (slice_get_past own (suc e) (omega arith))
      ]

  own_at : (variable : ℕ) → slice_get outside variable ≡ slice_get own entry → option_and_then (slice_get outside) (slice_get (insert others entry variable) entry) ≡ slice_get own entry
  own_at variable at = ap (option_and_then (slice_get outside)) (insert_here others entry variable (omega (arith, others_long))) ∙ at

  behind_at : (variable e : ℕ) → entry < e → option_and_then (slice_get outside) (slice_get (insert others entry variable) e) ≡ slice_get own e
  behind_at variable zero high = absurd (omega arith)
  behind_at variable (suc e) high = later_at variable e (omega arith)

  -- of each entry but this one; and of this one where the variable has its table
  pub edited_at : (variable e : ℕ) → (e ≡ entry → slice_get outside variable ≡ slice_get own entry) →
      option_and_then (slice_get outside) (slice_get (insert others entry variable) e) ≡ slice_get own e
  edited_at variable e at =
      elim (cases_lt e entry) [
        | inl low ↦ earlier_at variable e low
        | inr high ↦
            elim (cases_lt entry e) [
              | inl less ↦ behind_at variable e less
              | inr more ↦
                  let same : e ≡ entry = omega arith in
                  subst (λ k. option_and_then (slice_get outside) (slice_get (insert others entry variable) k) ≡ slice_get own k) (sym same) (own_at variable (at same))
            ]
      ]
