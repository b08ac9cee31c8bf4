-- The bounds of a formula's parts lie where its own do, and those of a sentence within plus or minus 2^66.
use Rattle.std.proofs.Common.{◌≡◌, ◌∙◌, sym, ap, ap₂, subst, refl, ◌^◌, ℕ, Bool, true, false, ◌&&◌, List, [], ◌∷◌, ◌++◌, map}
use Rattle.std.proofs.lemmas.Bool.{and_parts}
use Rattle.std.proofs.lemmas.List.Folds.{list_all-map}
use Rattle.std.specs.List.{list_all}
use Rattle.sort_formula.specs.declared.formula.Atom.{Atom}
use Rattle.sort_formula.specs.declared.formula.Atom.TheVariants as atom
use Rattle.sort_formula.specs.declared.formula.Formula.{Formula, fold_out-Formula, fold-roll-Formula, out-Formula, ind-Formula, roll-Formula, map-Formula}
use Rattle.sort_formula.specs.declared.formula.Formula.TheVariants as f
use Rattle.sort_formula.specs.declared.formula.Formula.TheOpen.{Formula-F}
use Rattle.sort_formula.specs.Bounds.{atom_is_within, within_step, is_within}
use Rattle.sort_formula.specs.Sentences.{Meaning, layer_is, has_variable, is_moderate, atom_is_bound, is_bound}

-- ---- of each kind of formula

module _ (greatest : ℕ) where
  abbrev layer_within : Formula-F Formula → Bool
  layer_within layer = within_step greatest (map-Formula Formula Bool (is_within greatest) layer)

  within_out : (g : Formula) → is_within greatest g ≡ layer_within (out-Formula g)
  within_out g = fold_out-Formula Bool (within_step greatest) g

  pub within_atom : (a : Atom) → is_within greatest (f.Atom a) ≡ atom_is_within greatest a
  within_atom a = within_out (f.Atom a) ∙ ap layer_within (f.outs-Atom a)

  pub within_and : (parts : List Formula) → is_within greatest (f.And parts) ≡ list_all (is_within greatest) parts
  within_and parts =
      within_out (f.And parts) ∙ (ap layer_within (f.outs-And parts) ∙ list_all-map (λ (b : Bool). b) (is_within greatest) parts)

  pub within_or : (parts : List Formula) → is_within greatest (f.Or parts) ≡ list_all (is_within greatest) parts
  within_or parts =
      within_out (f.Or parts) ∙ (ap layer_within (f.outs-Or parts) ∙ list_all-map (λ (b : Bool). b) (is_within greatest) parts)

  pub within_exists : (table : ℕ) (body : Formula) → is_within greatest (f.Exists table body) ≡ is_within greatest body
  within_exists table body = within_out (f.Exists table body) ∙ ap layer_within (f.outs-Exists table body)

  pub within_forall : (table : ℕ) (body : Formula) → is_within greatest (f.Forall table body) ≡ is_within greatest body
  within_forall table body = within_out (f.Forall table body) ∙ ap layer_within (f.outs-Forall table body)

-- ---- sentences

last_holds : (a b m : Bool) → (a && b && m) ≡ true → m ≡ true
last_holds true true m all = all
last_holds true false m all = cc
last_holds false b m all = cc

atom_within : (a : Atom) (tables : List ℕ) → atom_is_bound tables a ≡ true → atom_is_within (2 ^ 66) a ≡ true
atom_within (atom.Le left right most) tables bound = last_holds (has_variable tables left) (has_variable tables right) (is_moderate most) bound
atom_within (atom.TextEq left right) tables bound = refl
atom_within (atom.TextNe left right) tables bound = refl
atom_within (atom.IsNull row column) tables bound = refl
atom_within (atom.NotNull row column) tables bound = refl
atom_within (atom.Same row other) tables bound = refl
atom_within (atom.Other row other) tables bound = refl

abbrev BoundIsWithin : Formula → Type 0
BoundIsWithin g = (tables : List ℕ) → is_bound g tables ≡ true → is_within (2 ^ 66) g ≡ true

abbrev Part : Type 0
Part = (g : Formula) × BoundIsWithin g

abbrev formulas : List Part → List Formula
formulas parts = map (λ (part : Part). part.0) parts

each_within : (parts : List Part) (tables : List ℕ) → list_all (λ (part : Meaning). part tables) (map is_bound (formulas parts)) ≡ true →
    list_all (λ (b : Bool). b) (map (is_within (2 ^ 66)) (formulas parts)) ≡ true
each_within [] tables bound = refl
each_within (part ∷ parts) tables bound =
    let both = and_parts (is_bound part.0 tables) (list_all (λ (part : Meaning). part tables) (map is_bound (formulas parts))) bound in
    ap₂ (λ x y. x && y) (part.1 tables both.0) (each_within parts tables both.1)

abbrev bound_step : Formula-F Meaning → Meaning
bound_step = layer_is atom_is_bound (λ table. true)

abbrev layer_of : Formula-F Part → Formula-F Formula
layer_of y = map-Formula Part Formula (λ part. part.0) y

layer_kept : (y : Formula-F Part) (tables : List ℕ) → bound_step (map-Formula Formula Meaning is_bound (layer_of y)) tables ≡ true →
    within_step (2 ^ 66) (map-Formula Formula Bool (is_within (2 ^ 66)) (layer_of y)) ≡ true
layer_kept (Formula-F.Atom a) tables bound = atom_within a tables bound
layer_kept (Formula-F.And parts) tables bound = each_within parts tables bound
layer_kept (Formula-F.Or parts) tables bound = each_within parts tables bound
layer_kept (Formula-F.Exists table body) tables bound = body.1 (tables ++ table ∷ []) bound
layer_kept (Formula-F.Forall table body) tables bound = body.1 (tables ++ table ∷ []) bound

rolled : (y : Formula-F Part) → BoundIsWithin (roll-Formula (layer_of y))
rolled y tables bound =
    fold-roll-Formula Bool (within_step (2 ^ 66)) (layer_of y)
    ∙ layer_kept y tables (sym (ap (λ (m : Meaning). m tables) (fold-roll-Formula Meaning bound_step (layer_of y))) ∙ bound)

pub sentence_is_within : (g : Formula) → BoundIsWithin g
sentence_is_within = ind-Formula BoundIsWithin (λ x y is. subst (λ z. BoundIsWithin (roll-Formula z)) is (rolled y))

-- ---- the parts of a formula

pub and_is_within : (greatest : ℕ) (g : Formula) (parts : List Formula) → g ≡ f.And parts → is_within greatest g ≡ true → list_all (is_within greatest) parts ≡ true
and_is_within greatest g parts is within = sym (within_and greatest parts) ∙ (sym (ap (is_within greatest) is) ∙ within)

pub or_is_within : (greatest : ℕ) (g : Formula) (parts : List Formula) → g ≡ f.Or parts → is_within greatest g ≡ true → list_all (is_within greatest) parts ≡ true
or_is_within greatest g parts is within = sym (within_or greatest parts) ∙ (sym (ap (is_within greatest) is) ∙ within)
