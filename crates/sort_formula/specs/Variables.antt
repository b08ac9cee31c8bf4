-- Which numbers the variables of a formula have. The variable of a quantifier is the number of quantifiers outside
-- it.
use Rattle.std.specs.Prelude.{ℕ, suc, Bool, true, ◌&&◌, nat_lt}
use Rattle.std.specs.List.{list_all}
use Rattle.sort_formula.specs.declared.formula.Side.{Side}
use Rattle.sort_formula.specs.declared.formula.Side.TheVariants as side
use Rattle.sort_formula.specs.declared.formula.Atom.{Atom}
use Rattle.sort_formula.specs.declared.formula.Atom.TheVariants as atom
use Rattle.sort_formula.specs.declared.formula.Formula.{Formula, fold-Formula}
use Rattle.sort_formula.specs.declared.formula.Formula.TheOpen.{Formula-F}

abbrev pub side_is_below : ℕ → Side → Bool
side_is_below n (side.Cell row column) = nat_lt row n
side_is_below n side.Zero = true
side_is_below n (side.Text text) = true

-- each variable of the atom is below the number
abbrev pub atom_is_below : ℕ → Atom → Bool
atom_is_below n (atom.Le left right most) = side_is_below n left && side_is_below n right
atom_is_below n (atom.TextEq left right) = side_is_below n left && side_is_below n right
atom_is_below n (atom.TextNe left right) = side_is_below n left && side_is_below n right
atom_is_below n (atom.IsNull row column) = nat_lt row n
atom_is_below n (atom.NotNull row column) = nat_lt row n
atom_is_below n (atom.Same row other) = nat_lt row n && nat_lt other n
atom_is_below n (atom.Other row other) = nat_lt row n && nat_lt other n

abbrev pub Meaning : Type 0
Meaning = ℕ → Bool

abbrev pub numbered_from_step : Formula-F Meaning → Meaning
numbered_from_step (Formula-F.Atom a) n = atom_is_below n a
numbered_from_step (Formula-F.And parts) n = list_all (λ part. part n) parts
numbered_from_step (Formula-F.Or parts) n = list_all (λ part. part n) parts
numbered_from_step (Formula-F.Exists table body) n = body (suc n)
numbered_from_step (Formula-F.Forall table body) n = body (suc n)

-- each variable is below the number of quantifiers outside it, of which n stand outside the formula
abbrev pub is_numbered_from : ℕ → Formula → Bool
is_numbered_from n formula = fold-Formula Meaning numbered_from_step formula n

abbrev pub below_step : ℕ → Formula-F Bool → Bool
below_step n (Formula-F.Atom a) = atom_is_below n a
below_step n (Formula-F.And parts) = list_all (λ part. part) parts
below_step n (Formula-F.Or parts) = list_all (λ part. part) parts
below_step n (Formula-F.Exists table body) = body
below_step n (Formula-F.Forall table body) = body

-- each variable of the formula is below the number
abbrev pub is_below : ℕ → Formula → Bool
is_below n = fold-Formula Bool (below_step n)
