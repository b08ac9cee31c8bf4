-- Chains of reasons that come back: they are rings with a negative sum.
use Rattle.std.proofs.Common.{◌≡◌, ◌≢◌, ◌⊎◌, ℕ, ℤ, pos, ◌+ℤ◌, ◌≤ℤ◌, ◌<ℤ◌, ◌<◌, ◌≤◌, List, [], ◌∷◌, ◌++◌, length, true, false, Option, Some, None, All, set, zero, suc, refl, sym, ap, inl, inr, arith, eqb, ◌∙◌}
use Rattle.std.specs.List.{IsDistinct, AllByRecursion, list_any}
use Rattle.std.proofs.lemmas.List.{length-map, length-set, get_or-set_other}
use Rattle.std.proofs.lemmas.Bool.{eqb-true, cases_eq}
use Rattle.std.proofs.lemmas.Map.Steps.{length-le_from_distinct_below}
use Rattle.std.proofs.lemmas.Int.{ints}
use Rattle.std.proofs.lemmas.List.Elements.{All-from_recursion}
use Rattle.std.proofs.lemmas.Map.Keys.{IsDistinct-cons}
use Rattle.diff_bounds.specs.declared.system.Edge.{Edge}
use Rattle.diff_bounds.specs.System.{value_in, IsAmong}
use Rattle.diff_bounds.specs.Rings.{edge_at, left_ends, sum_of, Leads}
use Rattle.diff_bounds.specs.inner.Relaxing.{reason_of, Ends, Runs, Reaches, ComesTo, IsReason, IsHeld, IsAnswerRing}
use Rattle.diff_bounds.proofs.Chains.{Starts, eqb_no, or_cases, distinct, short, held_starts}

-- ---- chains, one edge more and joined

pub runs_more : (edges : List Edge) (reasons : List (Option ℕ)) (at end e : ℕ) (es : List ℕ) → Runs edges reasons at es end → reason_of reasons end ≡ Some e → Runs edges reasons at (es ++ e ∷ []) (edge_at edges e).right
runs_more edges reasons at end e [] runs some = (rw runs some, refl)
runs_more edges reasons at end e (f ∷ es) runs some = (runs.0, runs_more edges reasons _ end e es runs.1 some)

pub runs_ends : (edges : List Edge) (reasons : List (Option ℕ)) (at end : ℕ) (es fs : List ℕ) → Runs edges reasons at es end → Ends edges reasons end fs → Ends edges reasons at (es ++ fs)
runs_ends edges reasons at end [] fs runs ends = rw runs ends
runs_ends edges reasons at end (e ∷ es) fs runs ends = (runs.0, runs_ends edges reasons _ end es fs runs.1 ends)

-- a chain that leads to a variable meets it a first time
pub first : (edges : List Edge) (reasons : List (Option ℕ)) (at to : ℕ) (es : List ℕ) → Runs edges reasons at es to → (fs : List ℕ) × ComesTo edges reasons to at fs
first edges reasons at to [] runs = ([], runs)
first edges reasons at to (e ∷ es) runs =
    elim (cases_eq at to) [
      | inl same ↦ ([], same)
      | inr apart ↦ (let rest = first edges reasons _ to es runs.1 in (e ∷ rest.0, (apart, runs.0, rest.1)))
    ]

pub reaches_more : (edges : List Edge) (reasons : List (Option ℕ)) (barred at end e : ℕ) (es : List ℕ) → Reaches edges reasons barred at es end → end ≢ barred → reason_of reasons end ≡ Some e → Reaches edges reasons barred at (es ++ e ∷ []) (edge_at edges e).right
reaches_more edges reasons barred at end e [] reaches apart some = (rw reaches apart, rw reaches some, refl)
reaches_more edges reasons barred at end e (f ∷ es) reaches apart some =
    (reaches.0, reaches.1, reaches_more edges reasons barred _ end e es reaches.2 apart some)

pub reaches_comes : (edges : List Edge) (reasons : List (Option ℕ)) (to at end : ℕ) (es fs : List ℕ) → Reaches edges reasons to at es end → ComesTo edges reasons to end fs → ComesTo edges reasons to at (es ++ fs)
reaches_comes edges reasons to at end [] fs reaches comes = rw reaches comes
reaches_comes edges reasons to at end (e ∷ es) fs reaches comes = (reaches.0, reaches.1, reaches_comes edges reasons to _ end es fs reaches.2 comes)

-- from a variable that is not the last there is an edge, and from behind it the chain goes on
pub comes_on : (edges : List Edge) (reasons : List (Option ℕ)) (to at e : ℕ) (es : List ℕ) → ComesTo edges reasons to at es → at ≢ to → reason_of reasons at ≡ Some e → (fs : List ℕ) × ComesTo edges reasons to (edge_at edges e).right fs
comes_on edges reasons to at e [] comes apart some = absurd (apart comes)
comes_on edges reasons to at e (f ∷ es) comes apart some =
    let same : f ≡ e = cc (comes.1, some) in
    (es, rw (← same) comes.2)

-- a chain stops only where it is meant to
pub comes_there : (edges : List Edge) (reasons : List (Option ℕ)) (to at : ℕ) (es : List ℕ) → ComesTo edges reasons to at es → reason_of reasons at ≡ None → at ≡ to
comes_there edges reasons to at [] comes none = comes
comes_there edges reasons to at (e ∷ es) comes none = absurd (cc (comes.1, none))

-- ---- with the last variable's reason taken away, the chain ends there

freed_same : (reasons : List (Option ℕ)) (to : ℕ) → reason_of (set reasons to None) to ≡ None
freed_same [] to = refl
freed_same (r ∷ rs) zero = refl
freed_same (r ∷ rs) (suc to) = freed_same rs to

freed_starts : (edges : List Edge) (reasons : List (Option ℕ)) (to : ℕ) → Starts edges reasons → Starts edges (set reasons to None)
freed_starts edges reasons to starts at e some =
    elim (cases_eq at to) [
      | inl same ↦ (
          let none : reason_of (set reasons to None) at ≡ None = rw same (freed_same reasons to) in
          absurd (cc))
      | inr apart ↦ starts at e (sym (get_or-set_other reasons to at None None apart) ∙ some)
    ]

freed_ends : (edges : List Edge) (reasons : List (Option ℕ)) (to at : ℕ) (es : List ℕ) → ComesTo edges reasons to at es → Ends edges (set reasons to None) at es
freed_ends edges reasons to at [] comes = rw comes (freed_same reasons to)
freed_ends edges reasons to at (e ∷ es) comes =
    (get_or-set_other reasons to at None None comes.0 ∙ comes.1, freed_ends edges reasons to _ es comes.2)

pub comes_short : (edges : List Edge) (reasons : List (Option ℕ)) (starts : Starts edges reasons) (to at : ℕ) (es : List ℕ) → ComesTo edges reasons to at es → length es ≤ length reasons
comes_short edges reasons starts to at es comes =
    let few : length es ≤ length (set reasons to None) = short edges (set reasons to None) (freed_starts edges reasons to starts) at es (freed_ends edges reasons to at es comes) in
    let count : length (set reasons to None) ≡ length reasons = length-set reasons to None in
    omega arith

comes_distinct : (edges : List Edge) (reasons : List (Option ℕ)) (starts : Starts edges reasons) (to at : ℕ) (es : List ℕ) → ComesTo edges reasons to at es → IsDistinct eqb (left_ends edges es)
comes_distinct edges reasons starts to at es comes =
    distinct edges (set reasons to None) (freed_starts edges reasons to starts) at es (freed_ends edges reasons to at es comes)

lefts_below : (edges : List Edge) (vars : ℕ) (among : All (IsAmong vars) edges) (es : List ℕ) → AllByRecursion (λ e. e < length edges) es → (q : ℕ) → list_any (eqb q) (left_ends edges es) ≡ true → q < vars
lefts_below edges vars among [] numbers q any = absurd (cc any)
lefts_below edges vars among (e ∷ es) numbers q any =
    let ends : IsAmong vars (edge_at edges e) = among e _ numbers.0 in
    elim (or_cases _ _ any) [
      | inl here ↦ (let same : q ≡ (edge_at edges e).left = eqb-true _ _ here in omega arith)
      | inr there ↦ lefts_below edges vars among es numbers.1 q there
    ]

-- ---- the ring

module _ (edges : List Edge) (vars : ℕ) (values : List ℤ) (reasons : List (Option ℕ)) (held : IsHeld edges vars values reasons) where
  -- the edges lead on from one another
  leads : (to at end : ℕ) (es : List ℕ) → Reaches edges reasons to at es end → Leads edges at es end
  leads to at end [] reaches = reaches
  leads to at end (e ∷ es) reaches = (sym (held.lowered at e reaches.1).starts, leads to (edge_at edges e).right end es reaches.2)

  numbers_along : (to at end : ℕ) (es : List ℕ) → Reaches edges reasons to at es end → AllByRecursion (λ e. e < length edges) es
  numbers_along to at end [] reaches = tt
  numbers_along to at end (e ∷ es) reaches = ((held.lowered at e reaches.1).number, numbers_along to (edge_at edges e).right end es reaches.2)

  -- the last variable is not met before
  unmet_before : (to at end : ℕ) (es : List ℕ) → Reaches edges reasons to at es end → AllByRecursion (λ y. eqb to y ≡ false) (left_ends edges es)
  unmet_before to at end [] reaches = tt
  unmet_before to at end (e ∷ es) reaches =
      let left : (edge_at edges e).left ≡ at = (held.lowered at e reaches.1).starts in
      let apart : to ≡ (edge_at edges e).left → ⊥ = λ same. reaches.0 (let back : at ≡ to = cc in back) in
      (eqb_no _ _ apart, unmet_before to (edge_at edges e).right end es reaches.2)

  -- along a chain of reasons the bounds add up to less than the difference of the values, or to no more and the variable at its start was lowered later
  along : (to at end e : ℕ) (es : List ℕ) → reason_of reasons at ≡ Some e → Reaches edges reasons to (edge_at edges e).right es end → ((value_in values end +ℤ ((edge_at edges e).most +ℤ sum_of edges es)) <ℤ value_in values at) ⊎ (((value_in values end +ℤ ((edge_at edges e).most +ℤ sum_of edges es)) ≤ℤ value_in values at) × (held.time end < held.time at))
  along to at end e [] some reaches =
      let reason : IsReason edges values held.time at e = held.lowered at e some in
      let lowers : (value_in values (edge_at edges e).right +ℤ (edge_at edges e).most) ≤ℤ value_in values at = reason.lowers in
      let value : value_in values (edge_at edges e).right ≡ value_in values end = ap (value_in values) reaches in
      let when : held.time (edge_at edges e).right ≡ held.time end = ap held.time reaches in
      elim reason.newer [
        | inl later ↦ inr (omega (arith, ints), omega arith)
        | inr less ↦ inl (omega (arith, ints))
      ]
  along to at end e (f ∷ fs) some reaches =
      let reason : IsReason edges values held.time at e = held.lowered at e some in
      let lowers : (value_in values (edge_at edges e).right +ℤ (edge_at edges e).most) ≤ℤ value_in values at = reason.lowers in
      elim (along to (edge_at edges e).right end f fs reaches.1 reaches.2) [
        | inl less ↦ inl (omega (arith, ints))
        | inr rest ↦ (
            let sum : (value_in values end +ℤ ((edge_at edges f).most +ℤ sum_of edges fs)) ≤ℤ value_in values (edge_at edges e).right = rest.0 in
            elim reason.newer [
              | inl later ↦ inr (omega (arith, ints), omega arith)
              | inr less ↦ inl (omega (arith, ints))
            ])
      ]

  negative : (number : ℕ) (es : List ℕ) → reason_of reasons (edge_at edges number).left ≡ Some number → ComesTo edges reasons (edge_at edges number).left (edge_at edges number).right es → sum_of edges (number ∷ es) <ℤ pos 0
  negative number es some comes =
      elim (along (edge_at edges number).left (edge_at edges number).left (edge_at edges number).left number es some comes) [
        | inl less ↦ omega (arith, ints)
        | inr later ↦ (let never : held.time (edge_at edges number).left < held.time (edge_at edges number).left = later.1 in absurd (omega arith))
      ]

  -- a reason from whose right end the reasons lead back to its left end begins a ring that is an answer
  pub closes : (among : All (IsAmong vars) edges) (number : ℕ) (es : List ℕ) → reason_of reasons (edge_at edges number).left ≡ Some number → ComesTo edges reasons (edge_at edges number).left (edge_at edges number).right es → IsAnswerRing edges vars (number ∷ es)
  closes among number es some comes =
      let numbers : AllByRecursion (λ e. e < length edges) (number ∷ es) = ((held.lowered _ number some).number, numbers_along _ _ _ es comes) in
      let simple : IsDistinct eqb (left_ends edges (number ∷ es)) =
      IsDistinct-cons eqb _ _ (unmet_before _ _ _ es comes) (comes_distinct edges reasons (held_starts edges vars values reasons held) _ _ es comes) in
      let few = length-le_from_distinct_below (left_ends edges (number ∷ es)) vars simple (lefts_below edges vars among (number ∷ es) numbers) in
      record {
        negative = record { numbers = All-from_recursion (λ e. e < length edges) (number ∷ es) numbers; closed = leads _ _ _ es comes; negative = negative number es some comes };
        short = omega (arith, few, length-map (number ∷ es) (λ (e : ℕ). (edge_at edges e).left));
        simple = simple;
      }
