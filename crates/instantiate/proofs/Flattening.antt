-- The nodes of a formula are its own, and those of its parts; and there are as many as it has nodes.
use Rattle.std.proofs.Common.{◌≡◌, ◌∙◌, sym, ap, ap₂, refl, subst, ℕ, suc, ◌+◌, ◌<◌, Bool, true, false, List, [], ◌∷◌, ◌++◌, length, map, arith}
use Rattle.std.proofs.lemmas.List.{length-append}
use Rattle.std.proofs.lemmas.List.Sums.{sum_by-cons}
use Rattle.std.specs.Prelude.{Option, Some, None, sum, if◌then◌else◌}
use Rattle.sort_formula.specs.declared.formula.Formula.{Formula, ind-Formula, fold_out-Formula, fold-roll-Formula, roll-Formula, out-Formula, map-Formula}
use Rattle.sort_formula.specs.declared.formula.Formula.TheVariants as f
use Rattle.sort_formula.specs.declared.formula.Formula.TheOpen.{Formula-F}
use Rattle.sort_formula.specs.Nodes.{nodes, nodes_step}
use Rattle.sorted_skolem.specs.Preorder.{Quantifier, Way, Node, Laid, laid, laid_step, laid_parts, laid_inside, below_step}
use Rattle.sorted_skolem.proofs.Parts.{is_laid}

-- ---- by layers

abbrev layer_laid : Formula-F Formula → Formula-F Laid
layer_laid z = map-Formula Formula Laid laid z

abbrev back : Formula-F Laid → Formula-F Formula
back z = map-Formula Laid Formula (λ (l : Laid). l.formula) z

all_back : (gs : List Formula) → map (λ (l : Laid). l.formula) (map laid gs) ≡ gs
all_back [] = refl
all_back (g ∷ gs) = ap₂ (λ h hs. h ∷ hs) (is_laid g).same (all_back gs)

is_back : (z : Formula-F Formula) → back (layer_laid z) ≡ z
is_back (Formula-F.Atom a) = refl
is_back (Formula-F.And gs) = ap Formula-F.And (all_back gs)
is_back (Formula-F.Or gs) = ap Formula-F.Or (all_back gs)
is_back (Formula-F.Exists table body) = ap (Formula-F.Exists table) (is_laid body).same
is_back (Formula-F.Forall table body) = ap (Formula-F.Forall table) (is_laid body).same

module _ (number : ℕ) (above : Option Way) (around : List Quantifier) where
  abbrev pub own : Formula → Node
  own g = record { layer = out-Formula g; above = above; around = around }

  -- a formula's node, and those below it
  laid_is : (g : Formula) → (laid g).nodes number above around ≡ own g ∷ below_step (layer_laid (out-Formula g)) number around
  laid_is g =
      ap (λ (l : Laid). l.nodes number above around) (fold_out-Formula Laid laid_step g)
      ∙ ap (λ (z : Formula-F Formula). record { layer = z; above = above; around = around } ∷ below_step (layer_laid (out-Formula g)) number around) (is_back (out-Formula g))

  laid_by : (g : Formula) (z : Formula-F Formula) → out-Formula g ≡ z → (laid g).nodes number above around ≡ own g ∷ below_step (layer_laid z) number around
  laid_by g z is = laid_is g ∙ ap (λ (z : Formula-F Formula). own g ∷ below_step (layer_laid z) number around) is

  pub nodes_and : (g : Formula) (parts : List Formula) → g ≡ f.And parts →
      (laid g).nodes number above around ≡ own g ∷ laid_parts false number 0 (suc number) around (map laid parts)
  nodes_and g parts is = laid_by g (Formula-F.And parts) (ap out-Formula is ∙ f.outs-And parts)

  pub nodes_or : (g : Formula) (parts : List Formula) → g ≡ f.Or parts →
      (laid g).nodes number above around ≡ own g ∷ laid_parts true number 0 (suc number) around (map laid parts)
  nodes_or g parts is = laid_by g (Formula-F.Or parts) (ap out-Formula is ∙ f.outs-Or parts)

  pub nodes_exists : (g : Formula) (table : ℕ) (body : Formula) → g ≡ f.Exists table body →
      (laid g).nodes number above around ≡ own g ∷ laid_inside false table number around (laid body)
  nodes_exists g table body is = laid_by g (Formula-F.Exists table body) (ap out-Formula is ∙ f.outs-Exists table body)

  pub nodes_forall : (g : Formula) (table : ℕ) (body : Formula) → g ≡ f.Forall table body →
      (laid g).nodes number above around ≡ own g ∷ laid_inside true table number around (laid body)
  nodes_forall g table body is = laid_by g (Formula-F.Forall table body) (ap out-Formula is ∙ f.outs-Forall table body)

-- ---- as many as the formula has

abbrev Counted : Formula → Type 0
Counted g = (number : ℕ) (above : Option Way) (around : List Quantifier) → length ((laid g).nodes number above around) ≡ nodes g

abbrev Part : Type 0
Part = (g : Formula) × Counted g

abbrev formulas : List Part → List Formula
formulas parts = map (λ (part : Part). part.0) parts

abbrev layer_of : Formula-F Part → Formula-F Formula
layer_of y = map-Formula Part Formula (λ e. e.0) y

counted_parts : (is_or : Bool) (number way next : ℕ) (around : List Quantifier) (parts : List Part) →
    length (laid_parts is_or number way next around (map laid (formulas parts))) ≡ sum (map nodes (formulas parts))
counted_parts is_or number way next around [] = refl
counted_parts is_or number way next around (part ∷ parts) =
    let above : Option Way = Some (record { node = number; way = way }) in
    let here : List Node = (laid part.0).nodes next above around in
    let later : ℕ = if is_or then suc way else way in
    let rest = counted_parts is_or number later (next + length here) around parts in
    length-append here (laid_parts is_or number later (next + length here) around (map laid (formulas parts)))
    ∙ (ap₂ (λ m n. m + n) (part.1 next above around) rest
    ∙ sym (sum_by-cons (λ k. k) (nodes part.0) (map nodes (formulas parts))))

counted_below : (y : Formula-F Part) (number : ℕ) (around : List Quantifier) →
    suc (length (below_step (layer_laid (layer_of y)) number around)) ≡ nodes_step (map-Formula Formula ℕ nodes (layer_of y))
counted_below (Formula-F.Atom a) number around = refl
counted_below (Formula-F.And parts) number around = let e = counted_parts false number 0 (suc number) around parts in omega arith
counted_below (Formula-F.Or parts) number around = let e = counted_parts true number 0 (suc number) around parts in omega arith
counted_below (Formula-F.Exists table body) number around =
    let e = body.1 (suc number) (Some (record { node = number; way = 0 })) (around ++ record { node = number; table = table; is_forall = false } ∷ []) in omega arith
counted_below (Formula-F.Forall table body) number around =
    let e = body.1 (suc number) (Some (record { node = number; way = 0 })) (around ++ record { node = number; table = table; is_forall = true } ∷ []) in omega arith

at_layer : (y : Formula-F Part) → Counted (roll-Formula (layer_of y))
at_layer y number above around =
    let z : Formula-F Formula = layer_of y in
    ap (λ (l : Laid). length (l.nodes number above around)) (fold-roll-Formula Laid laid_step z)
    ∙ (counted_below y number around
    ∙ sym (fold-roll-Formula ℕ nodes_step z))

pub count_nodes : (g : Formula) → (number : ℕ) (above : Option Way) (around : List Quantifier) → length ((laid g).nodes number above around) ≡ nodes g
count_nodes = ind-Formula Counted (λ x y is. subst (λ z. Counted (roll-Formula z)) is (at_layer y))

pub some_nodes : (g : Formula) → 0 < nodes g
some_nodes g =
    let e = count_nodes g 0 None [] in
    let own = ap length (laid_is 0 None [] g) in
    omega arith
