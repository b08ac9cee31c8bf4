-- The negation of a formula, in which no NOT stands: And and Or, Exists and Forall, IsNull and NotNull, Same and
-- Other change places. A comparison fails where a cell of it is NULL, or where the opposite comparison holds.
use Rattle.std.specs.Prelude.{pos, neg_ℤ, ◌-ℤ◌, List, [], ◌∷◌, ◌++◌}
use Rattle.sort_formula.specs.declared.formula.Side.{Side}
use Rattle.sort_formula.specs.declared.formula.Side.TheVariants as side
use Rattle.sort_formula.specs.declared.formula.Atom.{Atom}
use Rattle.sort_formula.specs.declared.formula.Atom.TheVariants as atom
use Rattle.sort_formula.specs.declared.formula.Formula.{Formula, fold-Formula}
use Rattle.sort_formula.specs.declared.formula.Formula.TheVariants as f
use Rattle.sort_formula.specs.declared.formula.Formula.TheOpen.{Formula-F}

-- that the side is NULL, where it is a cell
abbrev pub null_of : Side → List Formula
null_of (side.Cell row column) = f.Atom (atom.IsNull row column) ∷ []
null_of side.Zero = []
null_of (side.Text text) = []

-- a side is NULL, or the opposite holds
abbrev pub fails : Side → Side → Atom → Formula
fails left right opposite = f.Or (null_of left ++ null_of right ++ f.Atom opposite ∷ [])

abbrev pub negated_atom : Atom → Formula
negated_atom (atom.Le left right most) = fails left right (atom.Le right left (neg_ℤ most -ℤ pos 1))
negated_atom (atom.TextEq left right) = fails left right (atom.TextNe left right)
negated_atom (atom.TextNe left right) = fails left right (atom.TextEq left right)
negated_atom (atom.IsNull row column) = f.Atom (atom.NotNull row column)
negated_atom (atom.NotNull row column) = f.Atom (atom.IsNull row column)
negated_atom (atom.Same row other) = f.Atom (atom.Other row other)
negated_atom (atom.Other row other) = f.Atom (atom.Same row other)

abbrev pub negated_step : Formula-F Formula → Formula
negated_step (Formula-F.Atom a) = negated_atom a
negated_step (Formula-F.And parts) = f.Or parts
negated_step (Formula-F.Or parts) = f.And parts
negated_step (Formula-F.Exists table body) = f.Forall table body
negated_step (Formula-F.Forall table body) = f.Exists table body

abbrev pub negated : Formula → Formula
negated = fold-Formula Formula negated_step
