-- The bounds of a formula of each kind, of its negation, and what follows of them.
use Rattle.std.proofs.Common.{◌≡◌, ◌∙◌, ap, ap₂, refl, subst, sym, ℕ, ◌^◌, ℤ, pos, neg_ℤ, ◌+ℤ◌, ◌-ℤ◌, ◌≤ℤ◌, Bool, true, ◌&&◌, List, [], ◌∷◌, ◌++◌, map, arith}
use Rattle.std.proofs.lemmas.Bool.{and_parts}
use Rattle.std.proofs.lemmas.Int.{ints}
use Rattle.std.proofs.lemmas.List.{append_assoc}
use Rattle.std.proofs.lemmas.List.Folds.{list_all-map}
use Rattle.std.specs.List.{list_all}
use Rattle.std.specs.Prelude.{int_lt}
use Rattle.lint_core.specs.Domain.{int_le}
use Rattle.sort_formula.proofs.Holding.{negated_of_atom, negated_and, negated_or, negated_exists, negated_forall}
use Rattle.sort_formula.specs.declared.formula.Side.{Side}
use Rattle.sort_formula.specs.declared.formula.Side.TheVariants as side
use Rattle.sort_formula.specs.declared.formula.Atom.{Atom}
use Rattle.sort_formula.specs.declared.formula.Atom.TheVariants as atom
use Rattle.sort_formula.specs.declared.formula.Formula.{Formula, ind-Formula, roll-Formula, fold-roll-Formula, map-Formula}
use Rattle.sort_formula.specs.declared.formula.Formula.TheVariants as f
use Rattle.sort_formula.specs.declared.formula.Formula.TheOpen.{Formula-F}
use Rattle.sort_formula.specs.Negated.{negated, negated_atom, null_of, fails}
use Rattle.sort_formula.specs.Bounds.{is_within, within_step, atom_is_within}
use Rattle.truth_formula.specs.inner.HalfOpen.{is_near, is_near_atom, half_open_step, is_half_open}

at_least : (least most : ℤ) → least ≤ℤ most → int_le least most ≡ true
at_least least most low = grind (arith, ints)

less_than : (most end : ℤ) → (most +ℤ pos 1) ≤ℤ end → int_lt most end ≡ true
less_than most end high = grind (arith, ints)

pub near_between : (most : ℤ) → neg_ℤ (pos (2 ^ 65)) ≤ℤ most → (most +ℤ pos 1) ≤ℤ pos (2 ^ 65) → is_near most ≡ true
near_between most low high = ap₂ (λ x y. x && y) (at_least (neg_ℤ (pos (2 ^ 65))) most low) (less_than most (pos (2 ^ 65)) high)

pub near_atom : (a : Atom) → is_half_open (f.Atom a) ≡ is_near_atom a
near_atom a = ap is_half_open (sym (f.rolls-Atom a)) ∙ fold-roll-Formula Bool half_open_step (Formula-F.Atom a)

pub near_and : (parts : List Formula) → is_half_open (f.And parts) ≡ list_all is_half_open parts
near_and parts = ap is_half_open (sym (f.rolls-And parts)) ∙ (fold-roll-Formula Bool half_open_step (Formula-F.And parts) ∙ list_all-map (λ part. part) is_half_open parts)

pub near_or : (parts : List Formula) → is_half_open (f.Or parts) ≡ list_all is_half_open parts
near_or parts = ap is_half_open (sym (f.rolls-Or parts)) ∙ (fold-roll-Formula Bool half_open_step (Formula-F.Or parts) ∙ list_all-map (λ part. part) is_half_open parts)

pub near_exists : (table : ℕ) (body : Formula) → is_half_open (f.Exists table body) ≡ is_half_open body
near_exists table body = ap is_half_open (sym (f.rolls-Exists table body)) ∙ fold-roll-Formula Bool half_open_step (Formula-F.Exists table body)

pub near_forall : (table : ℕ) (body : Formula) → is_half_open (f.Forall table body) ≡ is_half_open body
near_forall table body = ap is_half_open (sym (f.rolls-Forall table body)) ∙ fold-roll-Formula Bool half_open_step (Formula-F.Forall table body)

-- ---- negation

opposite_near : (most : ℤ) → is_near most ≡ true → is_near (neg_ℤ most -ℤ pos 1) ≡ true
opposite_near most near = grind (arith, ints)

nulls_near : (s : Side) (parts : List Formula) → list_all is_half_open (null_of s ++ parts) ≡ list_all is_half_open parts
nulls_near (side.Cell row column) parts = ap (λ b. b && list_all is_half_open parts) (near_atom (atom.IsNull row column))
nulls_near side.Zero parts = refl
nulls_near (side.Text text) parts = refl

last_near : (b : Bool) → b ≡ true → (b && true) ≡ true
last_near b is = cc

fails_near : (left right : Side) (opposite : Atom) → is_near_atom opposite ≡ true → is_half_open (fails left right opposite) ≡ true
fails_near left right opposite near =
    let last = f.Atom opposite ∷ [] in
    near_or (null_of left ++ null_of right ++ last)
    ∙ (ap (list_all is_half_open) (append_assoc (null_of left) (null_of right) last)
    ∙ (nulls_near left (null_of right ++ last)
    ∙ (nulls_near right last
    ∙ last_near (is_half_open (f.Atom opposite)) (near_atom opposite ∙ near))))

atom_not_near : (a : Atom) → is_near_atom a ≡ true → is_half_open (negated_atom a) ≡ true
atom_not_near (atom.Le left right most) near = fails_near left right (atom.Le right left (neg_ℤ most -ℤ pos 1)) (opposite_near most near)
atom_not_near (atom.TextEq left right) near = fails_near left right (atom.TextNe left right) refl
atom_not_near (atom.TextNe left right) near = fails_near left right (atom.TextEq left right) refl
atom_not_near (atom.IsNull row column) near = near_atom (atom.NotNull row column)
atom_not_near (atom.NotNull row column) near = near_atom (atom.IsNull row column)
atom_not_near (atom.Same row other) near = near_atom (atom.Other row other)
atom_not_near (atom.Other row other) near = near_atom (atom.Same row other)

abbrev NotNear : Formula → Type 0
NotNear g = is_half_open g ≡ true → is_half_open (negated g) ≡ true

abbrev Part : Type 0
Part = (g : Formula) × NotNear g

abbrev formulas : List Part → List Formula
formulas parts = map (λ (part : Part). part.0) parts

each_not_near : (parts : List Part) → list_all is_half_open (formulas parts) ≡ true → list_all is_half_open (map negated (formulas parts)) ≡ true
each_not_near [] near = refl
each_not_near (part ∷ parts) near =
    let both = and_parts (is_half_open part.0) (list_all is_half_open (formulas parts)) near in
    ap₂ (λ x y. x && y) (part.1 both.0) (each_not_near parts both.1)

at_layer : (y : Formula-F Part) → NotNear (roll-Formula (map-Formula Part Formula (λ e. e.0) y))
at_layer (Formula-F.Atom a) = subst NotNear (sym (f.rolls-Atom a)) (λ near. ap is_half_open (negated_of_atom a) ∙ atom_not_near a (sym (near_atom a) ∙ near))
at_layer (Formula-F.And parts) =
    let gs = formulas parts in
    subst NotNear (sym (f.rolls-And gs)) (λ near. ap is_half_open (negated_and gs) ∙ (near_or (map negated gs) ∙ each_not_near parts (sym (near_and gs) ∙ near)))
at_layer (Formula-F.Or parts) =
    let gs = formulas parts in
    subst NotNear (sym (f.rolls-Or gs)) (λ near. ap is_half_open (negated_or gs) ∙ (near_and (map negated gs) ∙ each_not_near parts (sym (near_or gs) ∙ near)))
at_layer (Formula-F.Exists table body) =
    subst NotNear (sym (f.rolls-Exists table body.0))
    (λ near. ap is_half_open (negated_exists table body.0) ∙ (near_forall table (negated body.0) ∙ body.1 (sym (near_exists table body.0) ∙ near)))
at_layer (Formula-F.Forall table body) =
    subst NotNear (sym (f.rolls-Forall table body.0))
    (λ near. ap is_half_open (negated_forall table body.0) ∙ (near_exists table (negated body.0) ∙ body.1 (sym (near_forall table body.0) ∙ near)))

pub not_near : (g : Formula) → NotNear g
not_near = ind-Formula NotNear (λ x y is. subst (λ z. NotNear (roll-Formula z)) is (at_layer y))

-- ---- the interval lies within plus or minus its end

atom_within : (a : Atom) → is_near_atom a ≡ true → atom_is_within (2 ^ 65) a ≡ true
atom_within (atom.Le left right most) near = grind (arith, ints)
atom_within (atom.TextEq left right) near = refl
atom_within (atom.TextNe left right) near = refl
atom_within (atom.IsNull row column) near = refl
atom_within (atom.NotNull row column) near = refl
atom_within (atom.Same row other) near = refl
atom_within (atom.Other row other) near = refl

abbrev Within : Formula → Type 0
Within g = is_half_open g ≡ true → is_within (2 ^ 65) g ≡ true

abbrev WithinPart : Type 0
WithinPart = (g : Formula) × Within g

abbrev bounded : List WithinPart → List Formula
bounded parts = map (λ (part : WithinPart). part.0) parts

each_within : (parts : List WithinPart) → list_all (λ part. part) (map is_half_open (bounded parts)) ≡ true →
    list_all (λ part. part) (map (is_within (2 ^ 65)) (bounded parts)) ≡ true
each_within [] near = refl
each_within (part ∷ parts) near =
    let both = and_parts (is_half_open part.0) (list_all (λ part. part) (map is_half_open (bounded parts))) near in
    ap₂ (λ x y. x && y) (part.1 both.0) (each_within parts both.1)

abbrev layer_of : Formula-F WithinPart → Formula-F Formula
layer_of y = map-Formula WithinPart Formula (λ e. e.0) y

layer_within : (y : Formula-F WithinPart) → half_open_step (map-Formula Formula Bool is_half_open (layer_of y)) ≡ true →
    within_step (2 ^ 65) (map-Formula Formula Bool (is_within (2 ^ 65)) (layer_of y)) ≡ true
layer_within (Formula-F.Atom a) near = atom_within a near
layer_within (Formula-F.And parts) near = each_within parts near
layer_within (Formula-F.Or parts) near = each_within parts near
layer_within (Formula-F.Exists table body) near = body.1 near
layer_within (Formula-F.Forall table body) near = body.1 near

rolled : (y : Formula-F WithinPart) → Within (roll-Formula (layer_of y))
rolled y near =
    fold-roll-Formula Bool (within_step (2 ^ 65)) (layer_of y)
    ∙ layer_within y (sym (fold-roll-Formula Bool half_open_step (layer_of y)) ∙ near)

pub near_within : (g : Formula) → Within g
near_within = ind-Formula Within (λ x y is. subst (λ z. Within (roll-Formula z)) is (rolled y))
