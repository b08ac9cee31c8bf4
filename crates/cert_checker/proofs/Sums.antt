-- A ring of inequalities, edge by edge.
use Rattle.std.proofs.Common.{◌≡◌, ◌∙◌, sym, ap, ap₂, refl, ℕ, ◌+◌, ◌*◌, ◌^◌, ◌<◌, ◌≤◌, ℤ, pos, neg_ℤ, ◌+ℤ◌, ◌≤ℤ◌, to_z, of_z, Bool, true, false, ◌&&◌, List, [], ◌∷◌, length, drop, get_or, arith, add-one, drop-cons}
use Rattle.std.proofs.lemmas.Int.{ints}
use Rattle.std.proofs.Math.IntN.{+ℤ_assoc, +ℤ_idl, +ℤ_idr}
use mir.Syntax.{w128}
use Rattle.std.specs.Prelude.{Option, Some, None, int_lt, option_and_then}
use Rattle.std.specs.Option.{option_map_or}
use Rattle.lint_core.specs.declared.certificate.SumEdge.{SumEdge}
use Rattle.lint_core.specs.declared.schema.Table.{Table}
use Rattle.sort_formula.specs.declared.formula.Side.{Side}
use Rattle.sort_formula.specs.Facts.{Branch, is_same_side}
use Rattle.sort_formula.specs.Sentences.{is_moderate}
use Rattle.sort_formula.specs.Rings.{Bound, bound_of, bounds_of, is_chain, is_negative_ring, sum_of}
use Rattle.cert_checker.specs.inner.Inequalities.{comes_back}

module _ (schema : List Table) (branch : Branch) where
  with_first : Bound → Option (List Bound) → Option (List Bound)
  with_first b rest = option_and_then (λ bs. Some (b ∷ bs)) rest

  closes : Side → Side → ℤ → Option (List Bound) → Bool
  closes to from sum bounds = option_map_or (λ bs. is_chain from bs to && int_lt (sum +ℤ sum_of bs) (pos 0)) bounds false

  bounds_more : (e : SumEdge) (es : List SumEdge) (b : Bound) → bound_of schema branch e ≡ Some b →
      bounds_of schema branch (e ∷ es) ≡ with_first b (bounds_of schema branch es)
  unfolding with_first
  bounds_more e es b is = ap (option_and_then (λ (b : Bound). option_and_then (λ bs. Some (b ∷ bs)) (bounds_of schema branch es))) is

  chain_more : (to from : Side) (sum : ℤ) (b : Bound) (rest : Option (List Bound)) → is_same_side from b.left ≡ true →
      closes to from sum (with_first b rest) ≡ closes to b.right (sum +ℤ b.most) rest
  unfolding with_first closes
  chain_more to from sum b None same = refl
  chain_more to from sum b (Some bs) same =
      ap₂ (λ (left : Bool) total. (left && is_chain b.right bs to) && int_lt total (pos 0)) same (sym (+ℤ_assoc sum b.most (sum_of bs)))

  chain_breaks : (to from : Side) (sum : ℤ) (b : Bound) (rest : Option (List Bound)) → is_same_side from b.left ≡ false →
      closes to from sum (with_first b rest) ≡ false
  unfolding with_first closes
  chain_breaks to from sum b None other = refl
  chain_breaks to from sum b (Some bs) other = ap (λ (left : Bool). (left && is_chain b.right bs to) && int_lt (sum +ℤ (b.most +ℤ sum_of bs)) (pos 0)) other

  -- an edge that begins where the one before ends
  pub ring_more : (to from : Side) (sum : ℤ) (e : SumEdge) (es : List SumEdge) (b : Bound) → bound_of schema branch e ≡ Some b →
      is_same_side from b.left ≡ true →
      comes_back schema branch to from sum (e ∷ es) ≡ comes_back schema branch to b.right (sum +ℤ b.most) es
  unfolding closes
  ring_more to from sum e es b is same =
      ap (closes to from sum) (bounds_more e es b is) ∙ chain_more to from sum b (bounds_of schema branch es) same

  -- one that does not
  pub ring_breaks : (to from : Side) (sum : ℤ) (e : SumEdge) (es : List SumEdge) (b : Bound) → bound_of schema branch e ≡ Some b →
      is_same_side from b.left ≡ false → comes_back schema branch to from sum (e ∷ es) ≡ false
  unfolding closes
  ring_breaks to from sum e es b is other =
      ap (closes to from sum) (bounds_more e es b is) ∙ chain_breaks to from sum b (bounds_of schema branch es) other

  -- one that states nothing
  pub ring_stops : (to from : Side) (sum : ℤ) (e : SumEdge) (es : List SumEdge) → bound_of schema branch e ≡ None →
      comes_back schema branch to from sum (e ∷ es) ≡ false
  ring_stops to from sum e es none =
      ap (λ (first : Option Bound). option_map_or (λ bs. is_chain from bs to && int_lt (sum +ℤ sum_of bs) (pos 0)) (option_and_then (λ (b : Bound). option_and_then (λ bs. Some (b ∷ bs)) (bounds_of schema branch es)) first) false) none

  pub ring_ends : (to from : Side) (sum : ℤ) → comes_back schema branch to from sum [] ≡ (is_same_side from to && int_lt sum (pos 0))
  ring_ends to from sum = ap (λ total. is_same_side from to && int_lt total (pos 0)) (+ℤ_idr sum)

  starts : (b : Bound) (rest : Option (List Bound)) → option_map_or is_negative_ring (with_first b rest) false ≡ closes b.left b.left (pos 0) (with_first b rest)
  unfolding with_first closes
  starts b None = refl
  starts b (Some bs) = ap (λ total. is_chain b.left (b ∷ bs) b.left && int_lt total (pos 0)) (sym (+ℤ_idl (sum_of (b ∷ bs))))

  -- a ring begins where its first inequality does
  pub ring_starts : (e : SumEdge) (es : List SumEdge) (b : Bound) → bound_of schema branch e ≡ Some b →
      comes_back schema branch b.left b.left (pos 0) (e ∷ es) ≡ option_map_or is_negative_ring (bounds_of schema branch (e ∷ es)) false
  unfolding closes
  ring_starts e es b is =
      let more = bounds_more e es b is in
      ap (closes b.left b.left (pos 0)) more ∙ (sym (starts b (bounds_of schema branch es)) ∙ sym (ap (λ bounds. option_map_or is_negative_ring bounds false) more))

  pub no_ring : (e : SumEdge) (es : List SumEdge) → bound_of schema branch e ≡ None →
      option_map_or is_negative_ring (bounds_of schema branch (e ∷ es)) false ≡ false
  no_ring e es none =
      ap (λ (first : Option Bound). option_map_or is_negative_ring (option_and_then (λ (b : Bound). option_and_then (λ bs. Some (b ∷ bs)) (bounds_of schema branch es)) first) false) none

-- ---- sums fit

pub moderate_low : (most : ℤ) → is_moderate most ≡ true → neg_ℤ (pos (2 ^ 66)) ≤ℤ most
moderate_low most moderate = grind (arith, ints)

pub moderate_high : (most : ℤ) → is_moderate most ≡ true → most ≤ℤ pos (2 ^ 66)
moderate_high most moderate = grind (arith, ints)

pub total_fits : (index : ℕ) (sum most : ℤ) → index < 32769 → neg_ℤ (pos (index * 2 ^ 66)) ≤ℤ sum → sum ≤ℤ pos (index * 2 ^ 66) →
    neg_ℤ (pos (2 ^ 66)) ≤ℤ most → most ≤ℤ pos (2 ^ 66) → to_z w128 (of_z w128 (sum +ℤ to_z w128 (of_z w128 most))) ≡ sum +ℤ most
total_fits index sum most few low high least greatest = omega (arith, ints)

pub total_low : (index : ℕ) (sum most : ℤ) → neg_ℤ (pos (index * 2 ^ 66)) ≤ℤ sum → neg_ℤ (pos (2 ^ 66)) ≤ℤ most →
    neg_ℤ (pos ((index + 1) * 2 ^ 66)) ≤ℤ (sum +ℤ most)
total_low index sum most low least = omega (arith, ints)

pub total_high : (index : ℕ) (sum most : ℤ) → sum ≤ℤ pos (index * 2 ^ 66) → most ≤ℤ pos (2 ^ 66) → (sum +ℤ most) ≤ℤ pos ((index + 1) * 2 ^ 66)
total_high index sum most high greatest = omega (arith, ints)

-- ---- the edges that are left

next_edge : (edges : List SumEdge) (index : ℕ) (d : SumEdge) → index < length edges → drop index edges ≡ get_or edges index d ∷ drop (index + 1) edges
next_edge edges index d within = drop-cons edges index d within ∙ ap (λ n. get_or edges index d ∷ drop n edges) (sym (add-one index))

module _ (schema : List Table) (branch : Branch) (to from : Side) (sum : ℤ) (edges : List SumEdge) (index : ℕ) (d : SumEdge) (within : index < length edges) where
  pub ring_goes_on : (b : Bound) → Some b ≡ bound_of schema branch (get_or edges index d) → is_same_side from b.left ≡ true → (total : ℤ) → total ≡ sum +ℤ b.most →
      comes_back schema branch to b.right total (drop (index + 1) edges) ≡ comes_back schema branch to from sum (drop index edges)
  ring_goes_on b is same total adds =
      ap (λ total. comes_back schema branch to b.right total (drop (index + 1) edges)) adds
      ∙ (sym (ring_more schema branch to from sum (get_or edges index d) (drop (index + 1) edges) b (sym is) same)
      ∙ sym (ap (comes_back schema branch to from sum) (next_edge edges index d within)))

pub ring_from_first : (schema : List Table) (branch : Branch) (edges : List SumEdge) (d : SumEdge) → 1 ≤ length edges → (b : Bound) → Some b ≡ bound_of schema branch (get_or edges 0 d) →
    comes_back schema branch b.left b.left (pos 0) edges ≡ option_map_or is_negative_ring (bounds_of schema branch edges) false
ring_from_first schema branch [] d some b is = absurd (omega arith)
ring_from_first schema branch (e ∷ es) d some b is = ring_starts schema branch e es b (sym is)
