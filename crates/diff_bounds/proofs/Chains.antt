-- Chains of reasons: where they end is unique, so none repeats a variable, and none is longer than there are variables.
use Rattle.std.proofs.Common.{◌≡◌, ◌⊎◌, ℕ, ℤ, pos, ◌+ℤ◌, ◌≤ℤ◌, ◌*◌, ◌^◌, ◌<◌, ◌≤◌, List, [], ◌∷◌, length, Bool, true, false, ◌||◌, Option, Some, All, zero, suc, refl, ap, inl, inr, arith, eqb}
use Rattle.std.specs.List.{IsDistinct, AllByRecursion, list_any}
use Rattle.std.proofs.lemmas.List.{length-map}
use Rattle.std.proofs.lemmas.Bool.{eqb-true}
use Rattle.std.proofs.lemmas.Map.Steps.{length-le_from_distinct_below}
use Rattle.std.proofs.lemmas.Int.{ints}
use Rattle.diff_bounds.specs.declared.system.Edge.{Edge}
use Rattle.diff_bounds.specs.System.{value_in, IsModerate}
use Rattle.diff_bounds.specs.Rings.{edge_at, left_ends}
use Rattle.diff_bounds.specs.inner.Relaxing.{reason_of, Ends, AllEnd, IsReason, IsHeld, IsAbove}

-- the end of a chain of reasons is unique
pub same_length : (edges : List Edge) (reasons : List (Option ℕ)) (at : ℕ) (es fs : List ℕ) → Ends edges reasons at es → Ends edges reasons at fs → length es ≡ length fs
same_length edges reasons at [] [] left right = refl
same_length edges reasons at [] (f ∷ fs) left right = absurd (cc (left, right.0))
same_length edges reasons at (e ∷ es) [] left right = absurd (cc (left.0, right))
same_length edges reasons at (e ∷ es) (f ∷ fs) left right =
    let same : e ≡ f = cc (left.0, right.0) in
    let rest : Ends edges reasons (edge_at edges e).right fs = rw same right.1 in
    ap (λ (n : ℕ). suc n) (same_length edges reasons _ es fs left.1 rest)

-- every edge that the reasons name starts at its variable
abbrev pub Starts : List Edge → List (Option ℕ) → Type 0
Starts edges reasons = (at e : ℕ) → reason_of reasons at ≡ Some e → (edge_at edges e).left ≡ at

pub eqb_no : (a b : ℕ) → (a ≡ b → ⊥) → eqb a b ≡ false
eqb_no a b apart = grind arith

-- a variable from which the chain is longer is not met
pub unmet : (edges : List Edge) (reasons : List (Option ℕ)) (starts : Starts edges reasons) (v : ℕ) (fs : List ℕ) → Ends edges reasons v fs → (at : ℕ) (es : List ℕ) → Ends edges reasons at es → length es < length fs → AllByRecursion (λ y. eqb v y ≡ false) (left_ends edges es)
unmet edges reasons starts v fs whole at [] ends shorter = tt
unmet edges reasons starts v fs whole at (e ∷ es) ends shorter =
    let left : (edge_at edges e).left ≡ at = starts at e ends.0 in
    let apart : v ≡ (edge_at edges e).left → ⊥ = λ same.
    let here : v ≡ at = cc in
    let again : Ends edges reasons v (e ∷ es) = rw here ends in
    let long : length (e ∷ es) ≡ length fs = same_length edges reasons v (e ∷ es) fs again whole in
    omega arith in
    (eqb_no _ _ apart, unmet edges reasons starts v fs whole _ es ends.1 (omega arith))

-- so no variable is met twice
pub distinct : (edges : List Edge) (reasons : List (Option ℕ)) (starts : Starts edges reasons) (at : ℕ) (es : List ℕ) → Ends edges reasons at es → IsDistinct eqb (left_ends edges es)
unfolding IsDistinct
distinct edges reasons starts at [] ends = tt
distinct edges reasons starts at (e ∷ es) ends =
    let left : (edge_at edges e).left ≡ at = starts at e ends.0 in
    let again : Ends edges reasons (edge_at edges e).left (e ∷ es) = rw left ends in
    (unmet edges reasons starts _ (e ∷ es) again _ es ends.1 (omega arith), distinct edges reasons starts _ es ends.1)

-- a variable with a reason is one of the listed
pub reason_listed : (reasons : List (Option ℕ)) (at e : ℕ) → reason_of reasons at ≡ Some e → at < length reasons
reason_listed [] at e some = absurd (cc some)
reason_listed (r ∷ rs) zero e some = omega arith
reason_listed (r ∷ rs) (suc at) e some = let rest : at < length rs = reason_listed rs at e some in omega arith

pub or_cases : (a b : Bool) → (a || b) ≡ true → (a ≡ true) ⊎ (b ≡ true)
or_cases true b h = inl refl
or_cases false b h = inr h

pub lefts_listed : (edges : List Edge) (reasons : List (Option ℕ)) (starts : Starts edges reasons) (at : ℕ) (es : List ℕ) → Ends edges reasons at es → (q : ℕ) → list_any (eqb q) (left_ends edges es) ≡ true → q < length reasons
lefts_listed edges reasons starts at [] ends q any = absurd (cc any)
lefts_listed edges reasons starts at (e ∷ es) ends q any =
    let left : (edge_at edges e).left ≡ at = starts at e ends.0 in
    let listed : at < length reasons = reason_listed reasons at e ends.0 in
    elim (or_cases _ _ any) [
      | inl here ↦ (let same : q ≡ (edge_at edges e).left = eqb-true _ _ here in omega arith)
      | inr there ↦ lefts_listed edges reasons starts _ es ends.1 q there
    ]

-- a chain is no longer than there are variables
pub short : (edges : List Edge) (reasons : List (Option ℕ)) (starts : Starts edges reasons) (at : ℕ) (es : List ℕ) → Ends edges reasons at es → length es ≤ length reasons
short edges reasons starts at es ends =
    let few = length-le_from_distinct_below (left_ends edges es) (length reasons) (distinct edges reasons starts at es ends) (lefts_listed edges reasons starts at es ends) in
    omega (arith, few, length-map es (λ (e : ℕ). (edge_at edges e).left))

-- ---- how low a value lies

-- each edge starts at the variable whose reason it is
pub held_starts : (edges : List Edge) (vars : ℕ) (values : List ℤ) (reasons : List (Option ℕ)) → IsHeld edges vars values reasons → Starts edges reasons
held_starts edges vars values reasons held at e some = (held.lowered at e some).starts

-- a value is held up by the chain of its reasons
above : (edges : List Edge) (vars : ℕ) (values : List ℤ) (reasons : List (Option ℕ)) (held : IsHeld edges vars values reasons) (moderate : All IsModerate edges) (at : ℕ) (es : List ℕ) → Ends edges reasons at es → pos 0 ≤ℤ (value_in values at +ℤ pos (length es * 2 ^ 66))
above edges vars values reasons held moderate at [] ends =
    let root : value_in values at ≡ pos 0 = held.untouched at ends in
    omega (arith, ints)
above edges vars values reasons held moderate at (e ∷ es) ends =
    let reason : IsReason edges values held.time at e = held.lowered at e ends.0 in
    let bound : IsModerate (edge_at edges e) = moderate e _ reason.number in
    let rest : pos 0 ≤ℤ (value_in values (edge_at edges e).right +ℤ pos (length es * 2 ^ 66)) = above edges vars values reasons held moderate _ es ends.1 in
    let lowers : (value_in values (edge_at edges e).right +ℤ (edge_at edges e).most) ≤ℤ value_in values at = reason.lowers in
    omega (arith, ints)

-- so where each chain ends, no value lies lower than the longest chain can hold it
pub all_above : (edges : List Edge) (vars : ℕ) (values : List ℤ) (reasons : List (Option ℕ)) (held : IsHeld edges vars values reasons) (moderate : All IsModerate edges) (few : vars ≤ 32769) → AllEnd edges reasons → IsAbove values 32769
all_above edges vars values reasons held moderate few ends at =
    let chain = ends at in
    let up : pos 0 ≤ℤ (value_in values at +ℤ pos (length chain.0 * 2 ^ 66)) = above edges vars values reasons held moderate at chain.0 chain.1 in
    let limit : length chain.0 ≤ length reasons = short edges reasons (held_starts edges vars values reasons held) at chain.0 chain.1 in
    let count : length reasons ≡ vars = held.reasons_length in
    omega (arith, ints)
