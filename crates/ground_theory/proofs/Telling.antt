-- Lists of what is told of each item.
use Rattle.std.proofs.Common.{◌≡◌, ◌∙◌, sym, ap, refl, subst, ℕ, zero, suc, ◌<◌, ◌≤◌, ◌+◌, ◌*◌, List, [], ◌∷◌, ◌++◌, length, drop, get_or, inl, inr, arith}
use Rattle.std.specs.Prelude.{Some, slice_get}
use Rattle.std.specs.List.{Contains}
use Rattle.std.proofs.lemmas.List.{append_assoc, append-nil, drop_more, drop_all, length-append}
use Rattle.std.proofs.lemmas.List.Elements.{Contains-append_left, Contains-append_right, Contains-append_cases}
use Rattle.ground_theory.specs.inner.Sums.{told}

module _ {A X : Type 0} (of : ℕ → A → List X) where
  -- one item more
  pub told_more : (xs all new : List X) (items : List A) (i : ℕ) (l d : A) → i < length items → get_or items i d ≡ l →
      xs ++ told of i (drop i items) ≡ all → new ≡ xs ++ of i l → new ++ told of (i + 1) (drop (i + 1) items) ≡ all
  told_more xs all new items i l d h is was next =
      let rest : List X = told of (i + 1) (drop (i + 1) items) in
      let step : told of i (drop i items) ≡ of i l ++ rest =
      ap (told of i) (drop_more items i d h ∙ ap (λ (x : A). x ∷ drop (i + 1) items) is)
      ∙ ap (λ (n : ℕ). of i l ++ told of n (drop (i + 1) items)) (let e : suc i ≡ i + 1 = omega arith in e) in
      ap (λ (ys : List X). ys ++ rest) next ∙ (append_assoc xs (of i l) rest ∙ (ap (λ (ys : List X). xs ++ ys) (sym step) ∙ was))

  -- all items
  pub told_all : (xs all : List X) (items : List A) (i : ℕ) → length items ≤ i → xs ++ told of i (drop i items) ≡ all → xs ≡ all
  told_all xs all items i h was = sym (append-nil xs) ∙ (ap (λ (ls : List A). xs ++ told of i ls) (sym (drop_all i items h)) ∙ was)

  -- what is in the list is told of an item
  pub told_from : (items : List A) (start : ℕ) (x : X) → Contains (told of start items) x →
      (j : ℕ) × (l : A) × (slice_get items j ≡ Some l) × Contains (of (start + j) l) x
  told_from [] start x there = absurd (let h : there.0 < 0 = there.1 in omega arith)
  told_from (l ∷ ls) start x there = elim (Contains-append_cases (of start l) (told of (suc start) ls) x there) [
    | inl here ↦ (zero, l, refl, subst (λ (n : ℕ). Contains (of n l) x) (let e : start ≡ start + 0 = omega arith in e) here)
    | inr later ↦
        let rest = told_from ls (suc start) x later in
        (suc rest.0, rest.1, rest.2, subst (λ (n : ℕ). Contains (of n rest.1) x) (let e : suc start + rest.0 ≡ start + suc rest.0 = omega arith in e) rest.3)
  ]

  -- what is told of an item is in the list
  pub told_has : (items : List A) (start j : ℕ) (l : A) (x : X) → slice_get items j ≡ Some l → Contains (of (start + j) l) x → Contains (told of start items) x
  told_has [] start j l x at there = cc at
  told_has (m ∷ ms) start zero l x at there =
      let one : m ≡ l = cc at in
      Contains-append_left (of start m) (told of (suc start) ms) x
      (subst (λ (k : A). Contains (of start k) x) (sym one) (subst (λ (n : ℕ). Contains (of n l) x) (let e : start + 0 ≡ start = omega arith in e) there))
  told_has (m ∷ ms) start (suc j) l x at there =
      Contains-append_right (of start m) (told of (suc start) ms) x
      (told_has ms (suc start) j l x at (subst (λ (n : ℕ). Contains (of n l) x) (let e : start + suc j ≡ suc start + j = omega arith in e) there))

  -- how long the list is
  pub told_length : (most : ℕ) → ((n : ℕ) (l : A) → length (of n l) ≤ most) → (items : List A) (start : ℕ) → length (told of start items) ≤ length items * most
  told_length most few [] start = omega arith
  told_length most few (l ∷ ls) start =
      let here = few start l in
      let rest = told_length most few ls (suc start) in
      let size : length (of start l ++ told of (suc start) ls) ≡ length (of start l) + length (told of (suc start) ls) = length-append (of start l) (told of (suc start) ls) in
      let step : suc (length ls) * most ≡ length ls * most + most = omega arith in
      omega arith
