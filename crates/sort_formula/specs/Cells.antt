-- Two cells beside each other, as formulas: equal, different, not distinct (ISO/IEC 9075:1992, 8.2 and 8.7). A text
-- cell stands beside a text cell or a text, a number cell beside a number cell.
use Rattle.std.specs.Prelude.{ℤ, pos, neg_ℤ, Bool, List, [], ◌∷◌, if◌then◌else◌}
use Rattle.sort_formula.specs.declared.formula.Side.{Side}
use Rattle.sort_formula.specs.declared.formula.Atom.TheVariants as atom
use Rattle.sort_formula.specs.declared.formula.Formula.{Formula}
use Rattle.sort_formula.specs.declared.formula.Formula.TheVariants as f

abbrev pub le : Side → Side → ℤ → Formula
le left right most = f.Atom (atom.Le left right most)

-- the two cells are equal
abbrev pub equal_cells : Bool → Side → Side → List Formula
equal_cells text x y = if text then f.Atom (atom.TextEq x y) ∷ [] else f.And (le x y (pos 0) ∷ le y x (pos 0) ∷ []) ∷ []

-- the two cells differ, part by part
abbrev pub different_cells : Bool → Side → Side → List Formula
different_cells text x y = if text then f.Atom (atom.TextNe x y) ∷ [] else le x y (neg_ℤ (pos 1)) ∷ le y x (neg_ℤ (pos 1)) ∷ []

-- the two cells are not distinct: both are NULL, as these formulas say of each, or they are equal
abbrev pub not_distinct_cells : Bool → Formula → Formula → Side → Side → Formula
not_distinct_cells text x_null y_null x y = f.Or (f.And (x_null ∷ y_null ∷ []) ∷ equal_cells text x y)
