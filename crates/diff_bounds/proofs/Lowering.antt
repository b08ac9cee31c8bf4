-- To lower a value to what an edge asks for keeps what holds between the steps.
use Rattle.std.proofs.Common.{◌≡◌, ◌≢◌, ◌⊎◌, ℕ, ℤ, pos, negsuc, ◌+ℤ◌, ◌≤ℤ◌, neg_ℤ, ◌<ℤ◌, ◌+◌, ◌*◌, ◌^◌, ◌<◌, ◌≤◌, List, [], length, zero, suc, Option, Some, None, cond, eqb, get_or, set, replicate, refl, sym, ap, inl, inr, arith, ◌∙◌}
use Rattle.std.proofs.lemmas.List.{get_or-set_same, get_or-set_other, length-set, length-replicate}
use Rattle.std.proofs.lemmas.List.Sums.{sum_by-set}
use Rattle.std.proofs.lemmas.Bool.{cases_eq}
use Rattle.std.proofs.lemmas.Int.{ints}
use Rattle.diff_bounds.specs.declared.system.Edge.{Edge}
use Rattle.diff_bounds.specs.System.{value_in, IsModerate}
use Rattle.diff_bounds.specs.Rings.{edge_at}
use Rattle.diff_bounds.specs.inner.Relaxing.{reason_of, IsReason, IsHeld, IsAbove, AllEnd, height, positive_part}

-- a lowered value lies at or below what it was
value_set_le : (values : List ℤ) (k at : ℕ) (z : ℤ) → k < length values → z ≤ℤ value_in values k → value_in (set values k z) at ≤ℤ value_in values at
value_set_le values k at z listed lower =
    elim (cases_eq at k) [
      | inl same ↦ (
          let here : value_in (set values k z) at ≡ z = rw same (get_or-set_same values k z (pos 0) listed) in
          let was : value_in values k ≡ value_in values at = ap (value_in values) (sym same) in
          omega (arith, ints))
      | inr apart ↦ (
          let there : value_in (set values k z) at ≡ value_in values at = get_or-set_other values k at z (pos 0) apart in
          omega (arith, ints))
    ]

-- the times, where the variable is lowered last
abbrev time_after : (ℕ → ℕ) → ℕ → ℕ → ℕ → ℕ
time_after time now k at = cond (eqb at k) (now + 1) (time at)

time_same : (time : ℕ → ℕ) (now k at : ℕ) → at ≡ k → time_after time now k at ≡ now + 1
time_same time now k at same = grind arith

time_other : (time : ℕ → ℕ) (now k at : ℕ) → (at ≡ k → ⊥) → time_after time now k at ≡ time at
time_other time now k at apart = grind arith

module _ (edges : List Edge) (vars : ℕ) (values : List ℤ) (reasons : List (Option ℕ)) (held : IsHeld edges vars values reasons) (number left right : ℕ) (most : ℤ)
    (listed : number < length edges) (left_is : (edge_at edges number).left ≡ left) (right_is : (edge_at edges number).right ≡ right) (most_is : (edge_at edges number).most ≡ most) (small : left < vars)
    (lower : (value_in values right +ℤ most) <ℤ value_in values left) where
  abbrev lowest : ℤ
  lowest = value_in values right +ℤ most

  abbrev after : ℕ → ℕ
  after = time_after held.time held.now left

  in_values : left < length values
  in_values = let e : length values ≡ vars = held.values_length in omega arith

  in_reasons : left < length reasons
  in_reasons = let e : length reasons ≡ vars = held.reasons_length in omega arith

  fallen : (at : ℕ) → value_in (set values left lowest) at ≤ℤ value_in values at
  fallen at = value_set_le values left at lowest in_values (omega (arith, ints))

  value_now : value_in (set values left lowest) left ≡ lowest
  value_now = get_or-set_same values left lowest (pos 0) in_values

  value_other : (at : ℕ) → (at ≡ left → ⊥) → value_in (set values left lowest) at ≡ value_in values at
  value_other at apart = get_or-set_other values left at lowest (pos 0) apart

  -- the new reason is one
  new_newer : (after right < after left) ⊎ ((value_in (set values left lowest) right +ℤ most) <ℤ value_in (set values left lowest) left)
  new_newer =
      elim (cases_eq right left) [
        | inl same ↦ (
            let both : value_in (set values left lowest) right ≡ lowest = ap (value_in (set values left lowest)) same ∙ value_now in
            let was : value_in values right ≡ value_in values left = ap (value_in values) same in
            let now : value_in (set values left lowest) left ≡ lowest = value_now in
            inr (omega (arith, ints)))
        | inr apart ↦ (
            let here : after left ≡ held.now + 1 = time_same held.time held.now left left refl in
            let there : after right ≡ held.time right = time_other held.time held.now left right apart in
            let past : held.time right ≤ held.now = held.past right in
            inl (omega arith))
      ]

  new_reason : IsReason edges (set values left lowest) after left number
  new_reason =
      let now : value_in (set values left lowest) left ≡ lowest = value_now in
      let down : value_in (set values left lowest) right ≤ℤ value_in values right = fallen right in
      record {
        number = listed;
        starts = left_is;
        lowers = rw (right_is, most_is) (omega (arith, ints));
        newer = rw (right_is, most_is) new_newer;
      }

  kept_newer : (at e : ℕ) → (at ≡ left → ⊥) → IsReason edges values held.time at e → (after (edge_at edges e).right < after at) ⊎ ((value_in (set values left lowest) (edge_at edges e).right +ℤ (edge_at edges e).most) <ℤ value_in (set values left lowest) at)
  kept_newer at e apart was =
      let same : value_in (set values left lowest) at ≡ value_in values at = value_other at apart in
      let lowers : (value_in values (edge_at edges e).right +ℤ (edge_at edges e).most) ≤ℤ value_in values at = was.lowers in
      let when : after at ≡ held.time at = time_other held.time held.now left at apart in
      elim (cases_eq (edge_at edges e).right left) [
        | inl here ↦ (
            let now : value_in (set values left lowest) (edge_at edges e).right ≡ lowest = ap (value_in (set values left lowest)) here ∙ value_now in
            let before : value_in values (edge_at edges e).right ≡ value_in values left = ap (value_in values) here in
            inr (omega (arith, ints)))
        | inr there ↦ (
            let stays : value_in (set values left lowest) (edge_at edges e).right ≡ value_in values (edge_at edges e).right = value_other (edge_at edges e).right there in
            let then_too : after (edge_at edges e).right ≡ held.time (edge_at edges e).right = time_other held.time held.now left (edge_at edges e).right there in
            elim was.newer [
              | inl later ↦ inl (omega arith)
              | inr less ↦ inr (omega (arith, ints))
            ])
      ]

  kept_reason : (at e : ℕ) → at ≢ left → reason_of reasons at ≡ Some e → IsReason edges (set values left lowest) after at e
  kept_reason at e apart some =
      let was : IsReason edges values held.time at e = held.lowered at e some in
      let same : value_in (set values left lowest) at ≡ value_in values at = value_other at apart in
      let down : value_in (set values left lowest) (edge_at edges e).right ≤ℤ value_in values (edge_at edges e).right = fallen (edge_at edges e).right in
      let lowers : (value_in values (edge_at edges e).right +ℤ (edge_at edges e).most) ≤ℤ value_in values at = was.lowers in
      record { number = was.number; starts = was.starts; lowers = omega (arith, ints); newer = kept_newer at e apart was }

  lowered_after : (at e : ℕ) → reason_of (set reasons left (Some number)) at ≡ Some e → IsReason edges (set values left lowest) after at e
  lowered_after at e some =
      elim (cases_eq at left) [
        | inl same ↦ (
            let new : reason_of (set reasons left (Some number)) at ≡ Some number = rw same (get_or-set_same reasons left (Some number) None in_reasons) in
            let is : number ≡ e = cc in
            rw same (rw (← is) new_reason))
        | inr apart ↦ kept_reason at e apart (sym (get_or-set_other reasons left at (Some number) None apart) ∙ some)
      ]

  untouched_after : (at : ℕ) → reason_of (set reasons left (Some number)) at ≡ None → value_in (set values left lowest) at ≡ pos 0
  untouched_after at none =
      elim (cases_eq at left) [
        | inl same ↦ (
            let new : reason_of (set reasons left (Some number)) at ≡ Some number = rw same (get_or-set_same reasons left (Some number) None in_reasons) in
            absurd (cc))
        | inr apart ↦
            get_or-set_other values left at lowest (pos 0) apart ∙ held.untouched at (sym (get_or-set_other reasons left at (Some number) None apart) ∙ none)
      ]

  falls_after : (at : ℕ) → value_in (set values left lowest) at ≤ℤ pos 0
  falls_after at =
      let was : value_in values at ≤ℤ pos 0 = held.falls at in
      let down : value_in (set values left lowest) at ≤ℤ value_in values at = fallen at in
      omega (arith, ints)

  past_after : (at : ℕ) → after at ≤ held.now + 1
  past_after at =
      elim (cases_eq at left) [
        | inl same ↦ (let here : after at ≡ held.now + 1 = time_same held.time held.now left at same in omega arith)
        | inr apart ↦ (
            let there : after at ≡ held.time at = time_other held.time held.now left at apart in
            let past : held.time at ≤ held.now = held.past at in
            omega arith)
      ]

  -- what holds between the steps holds again
  pub lowers : IsHeld edges vars (set values left lowest) (set reasons left (Some number))
  lowers = record {
    values_length = length-set values left lowest ∙ held.values_length;
    reasons_length = length-set reasons left (Some number) ∙ held.reasons_length;
    untouched = untouched_after;
    falls = falls_after;
    now = held.now + 1;
    time = after;
    past = past_after;
    lowered = lowered_after;
  }

  -- and the values lie at most one edge lower
  pub above_after : (count : ℕ) → IsAbove values count → IsModerate (edge_at edges number) → IsAbove (set values left lowest) (count + 1)
  above_after count above moderate at =
      let low : neg_ℤ (pos (2 ^ 66)) ≤ℤ (edge_at edges number).most = moderate.low in
      let asks : (edge_at edges number).most ≡ most = most_is in
      let end : pos 0 ≤ℤ (value_in values right +ℤ pos (count * 2 ^ 66)) = above right in
      let was : pos 0 ≤ℤ (value_in values at +ℤ pos (count * 2 ^ 66)) = above at in
      elim (cases_eq at left) [
        | inl same ↦ (
            let now : value_in (set values left lowest) at ≡ lowest = ap (value_in (set values left lowest)) same ∙ value_now in
            omega (arith, ints))
        | inr apart ↦ (
            let stays : value_in (set values left lowest) at ≡ value_in values at = value_other at apart in
            omega (arith, ints))
      ]

part_is : (z : ℤ) → pos 0 ≤ℤ z → pos (positive_part z) ≡ z
part_is (pos n) up = refl
part_is (negsuc n) up = absurd (omega (arith, ints))

part_lt : (a b : ℤ) → pos 0 ≤ℤ a → a <ℤ b → positive_part a < positive_part b
part_lt a b up lower =
    let left : pos (positive_part a) ≡ a = part_is a up in
    let right : pos (positive_part b) ≡ b = part_is b (omega (arith, ints)) in
    omega (arith, ints)

-- to lower a value that stays above the limit lowers the height
pub height_falls : (values : List ℤ) (k : ℕ) (z : ℤ) → k < length values → pos 0 ≤ℤ (z +ℤ pos (2 ^ 88)) → z <ℤ value_in values k → height (set values k z) < height values
height_falls values k z listed up lower =
    let f : ℤ → ℕ = λ z. positive_part (z +ℤ pos (2 ^ 88)) in
    let sums = sum_by-set f values k z (pos 0) listed in
    let less : f z < f (value_in values k) = part_lt (z +ℤ pos (2 ^ 88)) (value_in values k +ℤ pos (2 ^ 88)) up (omega (arith, ints)) in
    omega (arith, sums)

-- ---- the start

get_or-replicate_same : {X : Type 0} (n at : ℕ) (x : X) → get_or (replicate n x) at x ≡ x
get_or-replicate_same zero at x = refl
get_or-replicate_same (suc n) zero x = refl
get_or-replicate_same (suc n) (suc at) x = get_or-replicate_same n at x

-- where each value is 0 for no reason
pub fresh : (edges : List Edge) (vars : ℕ) (values : List ℤ) (reasons : List (Option ℕ)) → values ≡ replicate vars (pos 0) → reasons ≡ replicate vars None → IsHeld edges vars values reasons
fresh edges vars values reasons zeros nones =
    let value : (at : ℕ) → value_in values at ≡ pos 0 = λ at. rw zeros (get_or-replicate_same vars at (pos 0)) in
    let reason : (at : ℕ) → reason_of reasons at ≡ None = λ at. rw nones (get_or-replicate_same vars at None) in
    record {
      values_length = rw zeros (length-replicate vars (pos 0));
      reasons_length = rw nones (length-replicate vars None);
      untouched = λ at none. value at;
      falls = λ at. (let is : value_in values at ≡ pos 0 = value at in omega (arith, ints));
      now = 0;
      time = λ at. 0;
      past = λ at. omega arith;
      lowered = λ at e some. absurd (let none : reason_of reasons at ≡ None = reason at in cc);
    }

pub fresh_ends : (edges : List Edge) (vars : ℕ) (reasons : List (Option ℕ)) → reasons ≡ replicate vars None → AllEnd edges reasons
fresh_ends edges vars reasons nones at = ([], rw nones (get_or-replicate_same vars at None))
