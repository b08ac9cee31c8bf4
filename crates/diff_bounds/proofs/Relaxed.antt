-- One edge relaxed: what its sum is in the code's numbers, and what each outcome means.
use Rattle.std.proofs.Common.{◌≡◌, ℕ, ℤ, pos, ◌+ℤ◌, ◌≤ℤ◌, ◌<ℤ◌, ◌+◌, ◌*◌, ◌^◌, ◌<◌, ◌≤◌, List, length, true, false, Option, Some, All, FitsSigned, to_z, of_z, slice_index_or, set, refl, ap, arith, ◌∙◌}
use mir.Syntax.{w128}
use Rattle.std.specs.Int.Signed.{le_z}
use Rattle.std.proofs.lemmas.Int.{ints, to_z-of_z}
use Rattle.std.proofs.lemmas.List.{get_or_read}
use Rattle.diff_bounds.specs.declared.system.Edge.{Edge}
use Rattle.diff_bounds.specs.System.{value_in, IsAmong, IsModerate, Holds}
use Rattle.diff_bounds.specs.Rings.{edge_at}
use Rattle.diff_bounds.specs.inner.Relaxing.{IsHeld, IsAbove, height}
use Rattle.diff_bounds.proofs.Lowering.{lowers, above_after, height_falls}

le_true : (a b : ℤ) → le_z a b ≡ true → a ≤ℤ b
le_true a b test = grind (arith, ints)

le_false : (a b : ℤ) → le_z a b ≡ false → b <ℤ a
le_false a b test = grind (arith, ints)

-- the sum as the code makes it
abbrev pub made : ℤ → ℤ → ℤ
made v most = to_z w128 (of_z w128 v) +ℤ to_z w128 (of_z w128 most)

fits_between : (z : ℤ) → pos 0 ≤ℤ (z +ℤ pos (2 ^ 100)) → z ≤ℤ pos (2 ^ 100) → FitsSigned w128 z
fits_between z low high = omega (arith, ints)

module _ (edges : List Edge) (vars : ℕ) (values : List ℤ) (reasons : List (Option ℕ)) (held : IsHeld edges vars values reasons)
    (among : All (IsAmong vars) edges) (moderate : All IsModerate edges) (few : length edges ≤ 2 ^ 20) (number : ℕ) (listed : number < length edges) (above : IsAbove values (32769 + number)) (right : ℤ)
    (read : right ≡ slice_index_or values (edge_at edges number).right right) where
  abbrev most : ℤ
  most = (edge_at edges number).most

  among_at : (e : ℕ) → e < length edges → IsAmong vars (edge_at edges e)
  among_at e within = among e _ within

  right_is : right ≡ value_in values (edge_at edges number).right
  right_is =
      let count : length values ≡ vars = held.values_length in
      let ends : IsAmong vars (edge_at edges number) = among_at number listed in
      get_or_read values (edge_at edges number).right right (omega arith) read (pos 0)

  right_above : pos 0 ≤ℤ (right +ℤ pos (2 ^ 87))
  right_above =
      let is : right ≡ value_in values (edge_at edges number).right = right_is in
      let up : pos 0 ≤ℤ (value_in values (edge_at edges number).right +ℤ pos ((32769 + number) * 2 ^ 66)) = above (edge_at edges number).right in
      omega (arith, ints)

  right_falls : right ≤ℤ pos 0
  right_falls =
      let is : right ≡ value_in values (edge_at edges number).right = right_is in
      let down : value_in values (edge_at edges number).right ≤ℤ pos 0 = held.falls (edge_at edges number).right in
      omega (arith, ints)

  right_fits : FitsSigned w128 right
  right_fits = let low = right_above in let high = right_falls in fits_between right (omega (arith, ints)) (omega (arith, ints))

  most_fits : FitsSigned w128 most
  most_fits = let bound : IsModerate (edge_at edges number) = moderate number _ listed in fits_between most (omega (arith, ints)) (omega (arith, ints))

  made_is : made right most ≡ right +ℤ most
  made_is = rw (to_z-of_z w128 right right_fits, to_z-of_z w128 most most_fits) refl

  sum_fits : FitsSigned w128 (right +ℤ most)
  sum_fits =
      let low = right_above in let high = right_falls in
      let bound : IsModerate (edge_at edges number) = moderate number _ listed in
      fits_between (right +ℤ most) (omega (arith, ints)) (omega (arith, ints))

  -- the sum doesn't overflow
  pub made_fits : FitsSigned w128 (made right most)
  made_fits = rw made_is sum_fits

  -- what is stored is what the edge asks for
  pub stored_is : to_z w128 (of_z w128 (made right most)) ≡ value_in values (edge_at edges number).right +ℤ most
  stored_is = to_z-of_z w128 (made right most) made_fits ∙ made_is ∙ ap (λ (z : ℤ). z +ℤ most) right_is

  module _ (left : ℤ) (read_left : left ≡ slice_index_or values (edge_at edges number).left left) where
    left_is : left ≡ value_in values (edge_at edges number).left
    left_is =
        let count : length values ≡ vars = held.values_length in
        let ends : IsAmong vars (edge_at edges number) = among_at number listed in
        get_or_read values (edge_at edges number).left left (omega arith) read_left (pos 0)

    left_fits : FitsSigned w128 left
    left_fits =
        let is : left ≡ value_in values (edge_at edges number).left = left_is in
        let down : value_in values (edge_at edges number).left ≤ℤ pos 0 = held.falls (edge_at edges number).left in
        let up : pos 0 ≤ℤ (value_in values (edge_at edges number).left +ℤ pos ((32769 + number) * 2 ^ 66)) = above (edge_at edges number).left in
        fits_between left (omega (arith, ints)) (omega (arith, ints))

    shown_is : to_z w128 (of_z w128 left) ≡ value_in values (edge_at edges number).left
    shown_is = to_z-of_z w128 left left_fits ∙ left_is

    -- where the test passes the edge holds
    pub holds : le_z (to_z w128 (of_z w128 left)) (to_z w128 (of_z w128 (made right most))) ≡ true → Holds (value_in values) (edge_at edges number)
    holds test =
        let order : to_z w128 (of_z w128 left) ≤ℤ to_z w128 (of_z w128 (made right most)) = le_true _ _ test in
        let left_end : to_z w128 (of_z w128 left) ≡ value_in values (edge_at edges number).left = shown_is in
        let sum : to_z w128 (of_z w128 (made right most)) ≡ value_in values (edge_at edges number).right +ℤ most = stored_is in
        rw (← left_end, ← sum) order

    asks_less : le_z (to_z w128 (of_z w128 left)) (to_z w128 (of_z w128 (made right most))) ≡ false → (value_in values (edge_at edges number).right +ℤ most) <ℤ value_in values (edge_at edges number).left
    asks_less test =
        let order : to_z w128 (of_z w128 (made right most)) <ℤ to_z w128 (of_z w128 left) = le_false _ _ test in
        let left_end : to_z w128 (of_z w128 left) ≡ value_in values (edge_at edges number).left = shown_is in
        let sum : to_z w128 (of_z w128 (made right most)) ≡ value_in values (edge_at edges number).right +ℤ most = stored_is in
        rw (← left_end, ← sum) order

    abbrev lowered_values : List ℤ
    lowered_values = set values (edge_at edges number).left (to_z w128 (of_z w128 (made right most)))

    -- where it fails the value is lowered
    pub still_held : le_z (to_z w128 (of_z w128 left)) (to_z w128 (of_z w128 (made right most))) ≡ false → IsHeld edges vars lowered_values (set reasons (edge_at edges number).left (Some number))
    still_held test =
        rw stored_is (lowers edges vars values reasons held number (edge_at edges number).left (edge_at edges number).right most listed refl refl refl (among_at number listed).left (asks_less test))

    pub still_above : le_z (to_z w128 (of_z w128 left)) (to_z w128 (of_z w128 (made right most))) ≡ false → IsAbove lowered_values (32769 + (number + 1))
    still_above test at =
        let lower : IsAbove lowered_values (32769 + number + 1) =
        rw stored_is (above_after edges vars values reasons held number (edge_at edges number).left (edge_at edges number).right most listed refl refl refl (among_at number listed).left (asks_less test) (32769 + number) above (moderate number _ listed)) in
        let up : pos 0 ≤ℤ (value_in lowered_values at +ℤ pos ((32769 + number + 1) * 2 ^ 66)) = lower at in
        omega (arith, ints)

    pub falls : le_z (to_z w128 (of_z w128 left)) (to_z w128 (of_z w128 (made right most))) ≡ false → height (set values (edge_at edges number).left (to_z w128 (of_z w128 (made right most)))) < height values
    falls test =
        let count : length values ≡ vars = held.values_length in
        let ends : IsAmong vars (edge_at edges number) = among_at number listed in
        let bound : IsModerate (edge_at edges number) = moderate number _ listed in
        let up = right_above in
        let is : right ≡ value_in values (edge_at edges number).right = right_is in
        let less : (value_in values (edge_at edges number).right +ℤ most) <ℤ value_in values (edge_at edges number).left = asks_less test in
        rw stored_is (height_falls values (edge_at edges number).left (value_in values (edge_at edges number).right +ℤ most) (omega arith) (omega (arith, ints)) less)

-- values that are not lowered lie above any lower bound
pub above_more : (values : List ℤ) (number : ℕ) → IsAbove values (32769 + number) → IsAbove values (32769 + (number + 1))
above_more values number above at =
    let up : pos 0 ≤ℤ (value_in values at +ℤ pos ((32769 + number) * 2 ^ 66)) = above at in
    omega (arith, ints)
