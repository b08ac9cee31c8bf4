-- Two orders of the live tables are one: each list is ascending, and both have the same tables.
use Rattle.std.proofs.Common.{◌≡◌, ◌∙◌, sym, ap₂, refl, subst, ℕ, ◌<◌, ◌⊎◌, inl, inr, List, [], ◌∷◌, arith}
use Rattle.sort_formula.specs.declared.formula.Formula.{Formula}
use Rattle.sorted_skolem.specs.Graph.{HasDepth, StandsBefore, AreOrdered, IsOrder}
use Rattle.sorted_skolem.proofs.Among.{Among}
use Rattle.sorted_skolem.proofs.Ordered.{live_among, among_live}

module _ (sentences : List Formula) where
  one_depth : (table depth other : ℕ) → HasDepth sentences depth table → HasDepth sentences other table → depth ≡ other
  one_depth table depth other one two = let low = two.longest depth one.path in let high = one.longest other two.path in omega arith

  before_next : (table middle other : ℕ) → StandsBefore sentences table middle → StandsBefore sentences middle other → StandsBefore sentences table other
  before_next table middle other one two =
      let same : one.second ≡ two.depth = one_depth middle one.second two.depth one.second_is two.first_is in
      record { depth = one.depth; second = two.second; first_is = one.first_is; second_is = two.second_is; before = both one.depth one.second two.depth two.second same one.before two.before }
    where
      both : (d e f g : ℕ) → e ≡ f → (d < e) ⊎ ((d ≡ e) × (table < middle)) → (f < g) ⊎ ((f ≡ g) × (middle < other)) → (d < g) ⊎ ((d ≡ g) × (table < other))
      both d e f g same one two =
          elim one [
            | inl low ↦ elim two [ inl less ↦ inl (omega arith) | inr equal ↦ let e = equal.0 in inl (omega arith) ]
            | inr equal ↦
                let e' = equal.0 in
                let t = equal.1 in
                elim two [ inl less ↦ inl (omega arith) | inr equal' ↦ let e = equal'.0 in let u = equal'.1 in inr (omega arith, omega arith) ]
          ]

  never_itself : (table : ℕ) → StandsBefore sentences table table → ⊥
  never_itself table is =
      let same : is.depth ≡ is.second = one_depth table is.depth is.second is.first_is is.second_is in
      elim is.before [ inl low ↦ absurd (omega arith) | inr equal ↦ let low = equal.1 in absurd (omega arith) ]

  tail_ordered : (table : ℕ) (tables : List ℕ) → AreOrdered sentences (table ∷ tables) → AreOrdered sentences tables
  tail_ordered table [] all = tt
  tail_ordered table (next ∷ tables) all = all.1

  before_each : (table : ℕ) (tables : List ℕ) → AreOrdered sentences (table ∷ tables) → (other : ℕ) → Among tables other → StandsBefore sentences table other
  before_each table [] all other is = absurd is
  before_each table (next ∷ tables) all other is =
      elim is [
        | inl first ↦ subst (StandsBefore sentences table) first all.0
        | inr later ↦ before_next table next other all.0 (before_each next tables all.1 other later)
      ]

  abbrev Within : List ℕ → List ℕ → Type 0
  Within xs ys = (table : ℕ) → Among xs table → Among ys table

  one_first : (x y : ℕ) (xs ys : List ℕ) → AreOrdered sentences (x ∷ xs) → AreOrdered sentences (y ∷ ys) → Within (x ∷ xs) (y ∷ ys) → Within (y ∷ ys) (x ∷ xs) → x ≡ y
  one_first x y xs ys one two there back =
      elim (there x (inl refl)) [
        | inl same ↦ sym same
        | inr later ↦
            elim (back y (inl refl)) [
              | inl same ↦ same
              | inr later' ↦ absurd (never_itself x (before_next x y x (before_each x xs one y later') (before_each y ys two x later)))
            ]
      ]

  rest_within : (x y : ℕ) (xs ys : List ℕ) → AreOrdered sentences (x ∷ xs) → x ≡ y → Within (x ∷ xs) (y ∷ ys) → Within xs ys
  rest_within x y xs ys one same there table is =
      elim (there table (inr is)) [
        | inl first ↦ absurd (never_itself x (subst (StandsBefore sentences x) (sym (same ∙ first)) (before_each x xs one table is)))
        | inr later ↦ later
      ]

  one_list : (xs ys : List ℕ) → AreOrdered sentences xs → AreOrdered sentences ys → Within xs ys → Within ys xs → xs ≡ ys
  one_list [] [] one two there back = refl
  one_list [] (y ∷ ys) one two there back = absurd (back y (inl refl))
  one_list (x ∷ xs) [] one two there back = absurd (there x (inl refl))
  one_list (x ∷ xs) (y ∷ ys) one two there back =
      let same = one_first x y xs ys one two there back in
      ap₂ (λ z zs. z ∷ zs) same
      (one_list xs ys (tail_ordered x xs one) (tail_ordered y ys two) (rest_within x y xs ys one same there) (rest_within y x ys xs two (sym same) back))

  pub one_order : (order other : List ℕ) → IsOrder sentences order → IsOrder sentences other → order ≡ other
  one_order order other one two =
      one_list order other one.ordered two.ordered (λ table is. live_among sentences other two table (among_live sentences order one table is))
      (λ table is. live_among sentences order one table (among_live sentences other two table is))
