-- A walk back along edges that comes to a table for the second time closes a cycle.
use Rattle.std.proofs.Common.{◌≡◌, ◌∙◌, sym, ap, refl, subst, ℕ, suc, zero, ◌+◌, ◌<◌, inl, Bool, true, false, cond, ◌||◌, List, [], ◌∷◌, ◌++◌, length, get_or, drop, arith}
use Rattle.std.proofs.lemmas.Bool.{eqb-true}
use Rattle.std.proofs.lemmas.Bool.Decides.{nat_tests}
use Rattle.std.proofs.lemmas.Iterator.Adapters.{position_from-zero}
use Rattle.std.specs.List.{IsDistinct, position, position_from}
use Rattle.std.proofs.lemmas.List.{reverse-append}
use Rattle.std.proofs.lemmas.List.Sorted.{IsPermutation-reverse}
use Rattle.std.proofs.lemmas.Map.Keys.{IsDistinct-IsPermutation}
use Rattle.std.proofs.lemmas.Option.{same_Some}
use Rattle.std.specs.Prelude.{Option, Some, None, nat_eq, slice_get, reverse}
use Rattle.lint_base.proofs.Lists.{every_append}
use Rattle.sorted_skolem.specs.declared.edges.Edge.{Edge}
use Rattle.sorted_skolem.specs.inner.Waiting.{has, HasEdge, LeadsOn, IsRound, Backs}
use Rattle.sorted_skolem.proofs.Living.{among_has}

module _ (edges : List Edge) where
  pub backs_push : (walk : List ℕ) (at from : ℕ) → Backs edges walk at → HasEdge edges from at → Backs edges (walk ++ at ∷ []) from
  backs_push [] at from all edge = edge
  backs_push (x ∷ []) at from all edge = (all, edge)
  backs_push (x ∷ y ∷ ys) at from all edge = (all.0, backs_push (y ∷ ys) at from all.1 edge)

  backs_tail : (x : ℕ) (walk : List ℕ) (at : ℕ) → Backs edges (x ∷ walk) at → Backs edges walk at
  backs_tail x [] at all = tt
  backs_tail x (y ∷ ys) at all = all.1

  pub backs_drop : (n : ℕ) (walk : List ℕ) (at : ℕ) → Backs edges walk at → Backs edges (drop n walk) at
  backs_drop zero walk at all = all
  backs_drop (suc n) [] at all = all
  backs_drop (suc n) (x ∷ walk) at all = backs_drop n walk at (backs_tail x walk at all)

  -- an edge leads from each to the next, and from the last to the end
  abbrev Leads : ℕ → List ℕ → Type 0
  Leads end [] = Unit {0}
  Leads end (x ∷ xs) = LeadsOn edges end x xs

  leads_snoc : (xs : List ℕ) (x end : ℕ) → Leads x xs → HasEdge edges x end → Leads end (xs ++ x ∷ [])
  leads_snoc [] x end all edge = edge
  leads_snoc (y ∷ []) x end all edge = (all, edge)
  leads_snoc (y ∷ z ∷ zs) x end all edge = (all.0, leads_snoc (z ∷ zs) x end all.1 edge)

  leads_reverse : (x : ℕ) (xs : List ℕ) (at end : ℕ) → Backs edges (x ∷ xs) at → HasEdge edges x end → Leads end (reverse (x ∷ xs))
  leads_reverse x [] at end all edge = edge
  leads_reverse x (y ∷ ys) at end all edge =
      subst (Leads end) (sym (reverse-append (x ∷ []) (y ∷ ys))) (leads_snoc (reverse (y ∷ ys)) x end (leads_reverse y ys at x all.1 all.0) edge)

  abbrev last_of : ℕ → List ℕ → ℕ
  last_of x [] = x
  last_of x (y ∷ ys) = last_of y ys

  edge_last : (x : ℕ) (xs : List ℕ) (at : ℕ) → Backs edges (x ∷ xs) at → HasEdge edges at (last_of x xs)
  edge_last x [] at all = all
  edge_last x (y ∷ ys) at all = edge_last y ys at all.1

  head_reverse : (x : ℕ) (xs : List ℕ) → (zs : List ℕ) × (reverse (x ∷ xs) ≡ last_of x xs ∷ zs)
  head_reverse x [] = ([], refl)
  head_reverse x (y ∷ ys) = let rest = head_reverse y ys in (rest.0 ++ x ∷ [], reverse-append (x ∷ []) (y ∷ ys) ∙ ap (λ zs. zs ++ x ∷ []) rest.1)

  closed : (x : ℕ) (xs : List ℕ) → Backs edges (x ∷ xs) x → IsRound edges (reverse (x ∷ xs))
  closed x xs all =
      let end : ℕ = last_of x xs in
      let front = head_reverse x xs in
      let leads : Leads end (end ∷ front.0) = subst (Leads end) front.1 (leads_reverse x xs x end all (edge_last x xs x all)) in
      subst (IsRound edges) (sym front.1) leads

  from_place : (walk : List ℕ) (start at : ℕ) → slice_get walk start ≡ Some at → (xs : List ℕ) × (drop start walk ≡ at ∷ xs)
  from_place [] start at is = cc
  from_place (x ∷ xs) zero at is = (xs, ap (λ y. y ∷ xs) (same_Some x at is))
  from_place (x ∷ xs) (suc start) at is = from_place xs start at is

  -- the tables since it was met
  pub round_is : (walk : List ℕ) (start at : ℕ) → Backs edges walk at → slice_get walk start ≡ Some at → IsRound edges (reverse (drop start walk))
  round_is walk start at all is =
      let rest = from_place walk start at is in
      subst (λ ys. IsRound edges (reverse ys)) (sym rest.1) (closed at rest.0 (subst (λ ys. Backs edges ys at) rest.1 (backs_drop start walk at all)))

-- ---- the place of a table

place_cond : (b : Bool) (at x k : ℕ) (xs : List ℕ) (i : ℕ) → nat_eq x at ≡ b → cond b (Some k) (position_from (λ (other : ℕ). nat_eq other at) (k + 1) xs) ≡ Some i →
    (position_from (λ (other : ℕ). nat_eq other at) (k + 1) xs ≡ Some i → (j : ℕ) × (i ≡ (k + 1) + j) × (slice_get xs j ≡ Some at)) → (j : ℕ) × (i ≡ k + j) × (slice_get (x ∷ xs) j ≡ Some at)
place_cond true at x k xs i says is rest = let same : k ≡ i = same_Some k i is in (0, omega arith, ap Some (eqb-true x at says))
place_cond false at x k xs i says is rest = let found = rest is in let e : i ≡ (k + 1) + found.0 = found.1 in (suc found.0, omega arith, found.2)

place_from : (at k : ℕ) (xs : List ℕ) (i : ℕ) → position_from (λ (other : ℕ). nat_eq other at) k xs ≡ Some i → (j : ℕ) × (i ≡ k + j) × (slice_get xs j ≡ Some at)
place_from at k [] i is = cc
place_from at k (x ∷ xs) i is = place_cond (nat_eq x at) at x k xs i refl is (place_from at (k + 1) xs i)

pub place_some : (at : ℕ) (xs : List ℕ) (i : ℕ) → position (λ (other : ℕ). nat_eq other at) xs ≡ Some i → slice_get xs i ≡ Some at
place_some at xs i is =
    let found = place_from at 0 xs i (sym (position_from-zero (λ (other : ℕ). nat_eq other at) xs) ∙ is) in
    let same : found.0 ≡ i = (let e = found.1 in omega arith) in
    subst (λ n. slice_get xs n ≡ Some at) same found.2

none_cond : (b c : Bool) (k : ℕ) (o : Option ℕ) → cond b (Some k) o ≡ None → (o ≡ None → c ≡ false) → (b || c) ≡ false
none_cond true c k o is rest = cc
none_cond false c k o is rest = rest is

none_from : (at k : ℕ) (xs : List ℕ) → position_from (λ (other : ℕ). nat_eq other at) k xs ≡ None → has xs at ≡ false
none_from at k [] is = refl
none_from at k (x ∷ xs) is = none_cond (nat_eq x at) (has xs at) k (position_from (λ (other : ℕ). nat_eq other at) (k + 1) xs) is (none_from at (k + 1) xs)

pub place_none : (at : ℕ) (xs : List ℕ) → position (λ (other : ℕ). nat_eq other at) xs ≡ None → has xs at ≡ false
place_none at xs is = none_from at 0 xs (sym (position_from-zero (λ (other : ℕ). nat_eq other at) xs) ∙ is)

-- ---- where the walk begins

pub first_waits : (waiting : List ℕ) → 0 < length waiting → has waiting (get_or waiting 0 0) ≡ true
first_waits [] some = absurd (omega arith)
first_waits (table ∷ tables) some = among_has (table ∷ tables) table (inl refl)

-- ---- no table twice

pub simple_none : IsDistinct nat_eq []
unfolding IsDistinct
simple_none = tt

pub simple_push : (walk : List ℕ) (at : ℕ) → IsDistinct nat_eq walk → has walk at ≡ false → IsDistinct nat_eq (walk ++ at ∷ [])
unfolding IsDistinct
simple_push [] at simple none = (tt, tt)
simple_push (x ∷ xs) at simple none =
    let parts = neither (nat_eq x at) (has xs at) none in
    (every_append (λ y. nat_eq x y ≡ false) xs (at ∷ []) simple.0 (parts.0, tt), simple_push xs at simple.1 parts.1)
  where
    neither : (a b : Bool) → (a || b) ≡ false → (a ≡ false) × (b ≡ false)
    neither false b none = (refl, none)
    neither true b none = cc

pub simple_drop : (n : ℕ) (walk : List ℕ) → IsDistinct nat_eq walk → IsDistinct nat_eq (drop n walk)
unfolding IsDistinct
simple_drop zero walk simple = simple
simple_drop (suc n) [] simple = simple
simple_drop (suc n) (x ∷ walk) simple = simple_drop n walk simple.1

nat_eq_flips : (m n : ℕ) → nat_eq m n ≡ nat_eq n m
nat_eq_flips m n = grind (arith, nat_tests)

pub simple_reverse : (walk : List ℕ) → IsDistinct nat_eq walk → IsDistinct nat_eq (reverse walk)
simple_reverse walk simple = IsDistinct-IsPermutation nat_eq nat_eq_flips walk (reverse walk) (IsPermutation-reverse walk) simple
