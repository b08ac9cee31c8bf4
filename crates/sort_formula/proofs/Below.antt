-- The variables of a formula that stands below n quantifiers and has q of its own are below n + q.
use Rattle.std.proofs.Common.{◌≡◌, ◌∙◌, refl, sym, ap, ap₂, subst, ℕ, suc, Bool, true, ◌+◌, ◌≤◌, ◌&&◌, List, [], ◌∷◌, map, arith}
use Rattle.std.proofs.lemmas.Bool.Decides.{nat_tests}
use Rattle.std.proofs.lemmas.List.Folds.{list_all-map}
use Rattle.std.proofs.lemmas.List.Sums.{sum_by-cons}
use Rattle.std.specs.List.{list_all}
use Rattle.std.specs.Prelude.{nat_lt, sum}
use Rattle.sort_formula.specs.declared.formula.Side.{Side}
use Rattle.sort_formula.specs.declared.formula.Side.TheVariants as side
use Rattle.sort_formula.specs.declared.formula.Atom.{Atom}
use Rattle.sort_formula.specs.declared.formula.Atom.TheVariants as atom
use Rattle.sort_formula.specs.declared.formula.Formula.{Formula, ind-Formula, roll-Formula, fold-roll-Formula, map-Formula}
use Rattle.sort_formula.specs.declared.formula.Formula.TheVariants as f
use Rattle.sort_formula.specs.declared.formula.Formula.TheOpen.{Formula-F}
use Rattle.sort_formula.specs.Nodes.{quantifiers, quantifiers_step}
use Rattle.sort_formula.specs.Variables.{side_is_below, atom_is_below, Meaning, numbered_from_step, is_numbered_from, below_step, is_below}
use Rattle.lint_base.proofs.Lists.{both_left, both_right}

row_below : (n m row : ℕ) → n ≤ m → nat_lt row n ≡ true → nat_lt row m ≡ true
row_below n m row low below = grind (arith, nat_tests)

both : (a b c d : Bool) → (a ≡ true → c ≡ true) → (b ≡ true → d ≡ true) → (a && b) ≡ true → (c && d) ≡ true
both a b c d first second h = ap₂ (λ x y. x && y) (first (both_left a b h)) (second (both_right a b h))

side_below : (n m : ℕ) (s : Side) → n ≤ m → side_is_below n s ≡ true → side_is_below m s ≡ true
side_below n m (side.Cell row column) low below = row_below n m row low below
side_below n m side.Zero low below = refl
side_below n m (side.Text text) low below = refl

atom_below : (n m : ℕ) (a : Atom) → n ≤ m → atom_is_below n a ≡ true → atom_is_below m a ≡ true
atom_below n m (atom.Le left right most) low below =
    both (side_is_below n left) (side_is_below n right) (side_is_below m left) (side_is_below m right) (side_below n m left low) (side_below n m right low) below
atom_below n m (atom.TextEq left right) low below =
    both (side_is_below n left) (side_is_below n right) (side_is_below m left) (side_is_below m right) (side_below n m left low) (side_below n m right low) below
atom_below n m (atom.TextNe left right) low below =
    both (side_is_below n left) (side_is_below n right) (side_is_below m left) (side_is_below m right) (side_below n m left low) (side_below n m right low) below
atom_below n m (atom.IsNull row column) low below = row_below n m row low below
atom_below n m (atom.NotNull row column) low below = row_below n m row low below
atom_below n m (atom.Same row other) low below =
    both (nat_lt row n) (nat_lt other n) (nat_lt row m) (nat_lt other m) (row_below n m row low) (row_below n m other low) below
atom_below n m (atom.Other row other) low below =
    both (nat_lt row n) (nat_lt other n) (nat_lt row m) (nat_lt other m) (row_below n m row low) (row_below n m other low) below

abbrev pub Below : Formula → Type 0
Below g = (n m : ℕ) → is_numbered_from n g ≡ true → n + quantifiers g ≤ m → is_below m g ≡ true

abbrev Part : Type 0
Part = (g : Formula) × Below g

abbrev formulas : List Part → List Formula
formulas parts = map (λ (part : Part). part.0) parts

abbrev from : Formula → Meaning
from g n = is_numbered_from n g

each_below : (parts : List Part) (n m : ℕ) → list_all (λ (part : Meaning). part n) (map from (formulas parts)) ≡ true → n + sum (map quantifiers (formulas parts)) ≤ m →
    list_all (λ part. part) (map (is_below m) (formulas parts)) ≡ true
each_below [] n m placed low = refl
each_below (part ∷ parts) n m placed low =
    let count = sum_by-cons (λ k. k) (quantifiers part.0) (map quantifiers (formulas parts)) in
    let here = is_numbered_from n part.0 in
    let rest = list_all (λ (part : Meaning). part n) (map from (formulas parts)) in
    ap₂ (λ x y. x && y)
    (part.1 n m (both_left here rest placed) (omega arith))
    (each_below parts n m (both_right here rest placed) (omega arith))

abbrev layer_of : Formula-F Part → Formula-F Formula
layer_of y = map-Formula Part Formula (λ e. e.0) y

-- what the fact says of a layer
abbrev BelowLayer : Formula-F Formula → Type 0
BelowLayer x =
    (n m : ℕ) → numbered_from_step (map-Formula Formula Meaning from x) n ≡ true → n + quantifiers_step (map-Formula Formula ℕ quantifiers x) ≤ m →
    below_step m (map-Formula Formula Bool (is_below m) x) ≡ true

at_layer : (y : Formula-F Part) → BelowLayer (layer_of y)
at_layer (Formula-F.Atom a) n m placed low = atom_below n m a (omega arith) placed
at_layer (Formula-F.And parts) n m placed low = each_below parts n m placed low
at_layer (Formula-F.Or parts) n m placed low = each_below parts n m placed low
at_layer (Formula-F.Exists table body) n m placed low = body.1 (suc n) m placed (omega arith)
at_layer (Formula-F.Forall table body) n m placed low = body.1 (suc n) m placed (omega arith)

rolled : (x : Formula-F Formula) → BelowLayer x → Below (roll-Formula x)
rolled x layer n m placed low =
    fold-roll-Formula Bool (below_step m) x
    ∙ layer n m
    (sym (ap (λ (meaning : Meaning). meaning n) (fold-roll-Formula Meaning numbered_from_step x)) ∙ placed)
    (subst (λ (k : ℕ). n + k ≤ m) (fold-roll-Formula ℕ quantifiers_step x) low)

pub variables_below : (g : Formula) → Below g
variables_below = ind-Formula Below (λ x y is. subst (λ z. Below (roll-Formula z)) is (rolled (layer_of y) (at_layer y)))

-- those of a formula are those of its parts
pub below_and : (m : ℕ) (parts : List Formula) → is_below m (f.And parts) ≡ list_all (is_below m) parts
below_and m parts =
    ap (is_below m) (sym (f.rolls-And parts)) ∙ (fold-roll-Formula Bool (below_step m) (Formula-F.And parts) ∙ list_all-map (λ part. part) (is_below m) parts)

pub below_or : (m : ℕ) (parts : List Formula) → is_below m (f.Or parts) ≡ list_all (is_below m) parts
below_or m parts =
    ap (is_below m) (sym (f.rolls-Or parts)) ∙ (fold-roll-Formula Bool (below_step m) (Formula-F.Or parts) ∙ list_all-map (λ part. part) (is_below m) parts)

pub numbered_from_atom : (n : ℕ) (a : Atom) → is_numbered_from n (f.Atom a) ≡ atom_is_below n a
numbered_from_atom n a = ap (is_numbered_from n) (sym (f.rolls-Atom a)) ∙ ap (λ (meaning : Meaning). meaning n) (fold-roll-Formula Meaning numbered_from_step (Formula-F.Atom a))

pub quantifiers_atom : (a : Atom) → quantifiers (f.Atom a) ≡ 0
quantifiers_atom a = ap quantifiers (sym (f.rolls-Atom a)) ∙ fold-roll-Formula ℕ quantifiers_step (Formula-F.Atom a)
