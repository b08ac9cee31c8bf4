-- The leaf of a ring, from what its edges say between variables, is that of its origins.
use Rattle.std.proofs.Common.{◌≡◌, ◌∙◌, sym, ap, refl, ℕ, zero, suc, pos, ◌<◌, ◌+◌, ◌-◌, Bool, true, false, ◌&&◌, ◌||◌, List, [], ◌∷◌, ◌++◌, length, map, arith}
use Rattle.std.specs.Prelude.{Option, Some, None, slice_get, nat_eq, unwrap_or, if◌then◌else◌}
use Rattle.std.specs.List.{AllZip, AllByRecursion}
use Rattle.std.proofs.lemmas.Bool.{ne_eqb}
use Rattle.std.proofs.lemmas.List.{map-append}
use Rattle.std.proofs.lemmas.Option.{slice_get-get_or}
use Rattle.lint_core.specs.declared.certificate.SumEdge.{SumEdge}
use Rattle.sort_formula.specs.declared.formula.Side.{Side}
use Rattle.sort_formula.specs.declared.formula.Side.TheVariants as side
use Rattle.sort_formula.specs.Facts.{is_same_side}
use Rattle.sort_formula.specs.Rings.{Bound, is_fact, is_low, is_high}
use Rattle.ground_theory.specs.declared.literal.Frame.{Frame}
use Rattle.ground_theory.specs.declared.literal.Literal.{Literal}
use Rattle.ground_theory.specs.declared.numbering.Cell.{Cell}
use Rattle.ground_theory.specs.declared.numbers.Stated.{Stated}
use Rattle.ground_theory.specs.Edges.{between, bound, stated, IsSystem}
use Rattle.ground_theory.specs.SumLeaf as leaf
use Rattle.ground_theory.specs.inner.Numbering.{cell_at}
use Rattle.ground_theory.specs.inner.Rings.{from_zero, leads_high, cell_of_variable, low_of, high_of, cut_back, cut_front, cut_ring}
use Rattle.ground_theory.specs.inner.Systems.{variable_side, IsRight}

abbrev pub origin : Stated → SumEdge
origin s = s.origin

module _ (frame : Frame) (literals : List Literal) (cells : List Cell) where
  abbrev Right : Stated → Type 0
  Right = IsRight frame literals cells

  bound_is : (s : Stated) → Right s → bound frame literals s.origin ≡ between (variable_side cells) s.edge
  bound_is s right = ap (λ (o : Option Bound). unwrap_or o (record { left = side.Zero; right = side.Zero; most = pos 0 })) right.states

  zero_side : (v : ℕ) → is_same_side (variable_side cells v) side.Zero ≡ nat_eq v 0
  zero_side zero = refl
  zero_side (suc v) = sym (ne_eqb (suc v) 0 (λ e. (let h : suc v ≡ 0 = e in omega arith)))

  leaves_is : (s : Stated) → Right s → leaf.leaves_zero frame literals s.origin ≡ nat_eq s.edge.left 0
  leaves_is s right = ap (λ (b : Bound). is_same_side b.left side.Zero) (bound_is s right) ∙ zero_side s.edge.left

  cell_is : (v : ℕ) → v < length cells + 1 → (f : Side → List SumEdge) (g : Option Cell → List SumEdge) → f side.Zero ≡ g None → ((c : Cell) → f (side.Cell c.row c.column) ≡ g (Some c)) →
      f (variable_side cells v) ≡ g (cell_of_variable cells v)
  cell_is zero h f g none some = none
  cell_is (suc v) h f g none some =
      let other : nat_eq (suc v) 0 ≡ false = ne_eqb (suc v) 0 (λ e. (let h : suc v ≡ 0 = e in omega arith)) in
      let back : suc v - 1 ≡ v = omega arith in
      let here : slice_get cells (suc v - 1) ≡ Some (cell_at cells v) = ap (slice_get cells) back ∙ slice_get-get_or cells v (record { row = 0; column = 0 }) (omega arith) in
      some (cell_at cells v) ∙ ap g (sym (ap (λ (b : Bool). if b then None else slice_get cells (suc v - 1)) other ∙ here))

  -- ---- turned

  from_zero_is : (before after : List Stated) → AllByRecursion Right after → map origin (from_zero before after) ≡ leaf.turned frame literals (map origin before) (map origin after)
  from_zero_is before [] right = refl
  from_zero_is before (s ∷ ss) right =
      go (nat_eq s.edge.left 0) (leaf.leaves_zero frame literals s.origin) (leaves_is s right.0)
      (from_zero_is (before ++ s ∷ []) ss right.1 ∙ ap (λ (b : List SumEdge). leaf.turned frame literals b (map origin ss)) (map-append origin before (s ∷ [])))
    where
      go : (b c : Bool) → c ≡ b → map origin (from_zero (before ++ s ∷ []) ss) ≡ leaf.turned frame literals (map origin before ++ s.origin ∷ []) (map origin ss) →
          map origin (if b then (s ∷ ss) ++ before else from_zero (before ++ s ∷ []) ss)
          ≡ (if c then map origin (s ∷ ss) ++ map origin before else leaf.turned frame literals (map origin before ++ s.origin ∷ []) (map origin ss))
      go true true e rest = map-append origin (s ∷ ss) before
      go false false e rest = rest
      go true false e rest = cc e
      go false true e rest = cc e

  -- ---- cut

  leads_is : (ss : List Stated) → leaf.leads_high (map origin ss) ≡ leads_high ss
  leads_is [] = refl
  leads_is (s ∷ ss) = ap (λ (b : Bool). is_high s.origin || (leaf.is_same s.origin && b)) (leads_is ss)

  back_is : (ss : List Stated) → AllByRecursion Right ss → leaf.cut_back frame literals (map origin ss) ≡ cut_back cells ss
  back_is [] right = refl
  back_is (s ∷ ss) right =
      let high : leaf.high_at (bound frame literals s.origin).right ≡ high_of cells (cell_of_variable cells s.edge.right) =
      ap (λ (b : Bound). leaf.high_at b.right) (bound_is s right.0) ∙ cell_is s.edge.right right.0.among.right leaf.high_at (high_of cells) refl (λ c. refl) in
      ap (λ (es : List SumEdge). s.origin ∷ es)
      (ap (λ (b : Bool). if is_fact s.origin && b then leaf.high_at (bound frame literals s.origin).right else leaf.cut_back frame literals (map origin ss)) (leads_is ss)
      ∙ (ap (λ (es : List SumEdge). if is_fact s.origin && leads_high ss then es else leaf.cut_back frame literals (map origin ss)) high
      ∙ ap (λ (es : List SumEdge). if is_fact s.origin && leads_high ss then high_of cells (cell_of_variable cells s.edge.right) else es) (back_is ss right.1)))

  front_is : (ss : List Stated) → AllByRecursion Right ss → leaf.cut_front frame literals (map origin ss) ≡ cut_front cells ss
  front_is [] right = refl
  front_is (s ∷ ss) right =
      let low : leaf.low_at (bound frame literals s.origin).left ≡ low_of cells (cell_of_variable cells s.edge.left) =
      ap (λ (b : Bound). leaf.low_at b.left) (bound_is s right.0) ∙ cell_is s.edge.left right.0.among.left leaf.low_at (low_of cells) refl (λ c. refl) in
      ap (λ (es : List SumEdge). if leaf.is_same s.origin then es else leaf.low_at (bound frame literals s.origin).left ++ leaf.cut_back frame literals (map origin (s ∷ ss))) (front_is ss right.1)
      ∙ (ap (λ (es : List SumEdge). if leaf.is_same s.origin then cut_front cells ss else es ++ leaf.cut_back frame literals (map origin (s ∷ ss))) low
      ∙ ap (λ (es : List SumEdge). if leaf.is_same s.origin then cut_front cells ss else low_of cells (cell_of_variable cells s.edge.left) ++ es) (back_is (s ∷ ss) right))

  cut_is : (ss : List Stated) → AllByRecursion Right ss → leaf.cut frame literals (map origin ss) ≡ cut_ring cells ss
  cut_is [] right = refl
  cut_is (s ∷ ss) right =
      ap (λ (es : List SumEdge). if is_low s.origin then es else leaf.cut_back frame literals (map origin (s ∷ ss))) (front_is ss right.1)
      ∙ ap (λ (es : List SumEdge). if is_low s.origin then cut_front cells ss else es) (back_is (s ∷ ss) right)

  -- ---- the system

  zipped : (ss : List Stated) → AllByRecursion Right ss → AllZip (λ o e. stated frame literals o ≡ Some (between (variable_side cells) e)) (map origin ss) (map (λ (s : Stated). s.edge) ss)
  zipped [] right = tt
  zipped (s ∷ ss) right = (right.0.states, zipped ss right.1)

  pub system_is : (ss : List Stated) → AllByRecursion Right ss → IsSystem frame literals (variable_side cells) (map origin ss) (map (λ (s : Stated). s.edge) ss)
  system_is ss right = record { zero = first; states = zipped ss right }
    where
      first : (n : ℕ) → variable_side cells n ≡ side.Zero → n ≡ 0
      first zero is = refl
      first (suc n) is = cc is

  pub leaf_is : (ss : List Stated) → AllByRecursion Right ss → leaf.cut frame literals (leaf.turned frame literals [] (map origin ss)) ≡ cut_ring cells (from_zero [] ss)
  leaf_is ss right = ap (leaf.cut frame literals) (sym (from_zero_is [] ss right)) ∙ cut_is (from_zero [] ss) (kept [] ss tt right)
    where
      joined : (xs ys : List Stated) → AllByRecursion Right xs → AllByRecursion Right ys → AllByRecursion Right (xs ++ ys)
      joined [] ys first second = second
      joined (x ∷ xs) ys first second = (first.0, joined xs ys first.1 second)

      kept : (before after : List Stated) → AllByRecursion Right before → AllByRecursion Right after → AllByRecursion Right (from_zero before after)
      kept before [] first second = first
      kept before (s ∷ ss) first second = go (nat_eq s.edge.left 0) (kept (before ++ s ∷ []) ss (joined before (s ∷ []) first (second.0, tt)) second.1)
        where
          go : (b : Bool) → AllByRecursion Right (from_zero (before ++ s ∷ []) ss) → AllByRecursion Right (if b then (s ∷ ss) ++ before else from_zero (before ++ s ∷ []) ss)
          go true rest = joined (s ∷ ss) before second first
          go false rest = rest
