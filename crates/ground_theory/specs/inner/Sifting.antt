-- What literals say, by kind, in their order and with their numbers.
use Rattle.std.specs.Prelude.{ℕ, suc, List, [], ◌∷◌, ◌++◌, Option, Some, None}
use Rattle.sort_formula.specs.declared.formula.Side.{Side}
use Rattle.sort_formula.specs.declared.formula.Side.TheVariants as side
use Rattle.sort_formula.specs.declared.formula.Atom.{Atom}
use Rattle.sort_formula.specs.declared.formula.Atom.TheVariants as atom
use Rattle.ground_theory.specs.declared.joining.Join.{Join}
use Rattle.ground_theory.specs.declared.literal.Literal.{Literal}
use Rattle.ground_theory.specs.declared.numbering.Cell.{Cell}
use Rattle.ground_theory.specs.declared.numbering.Named.{Named}
use Rattle.ground_theory.specs.declared.sifting.Bound.{Bound}

-- the rows that are one
abbrev pub same_of : ℕ → Atom → List Join
same_of fact (atom.Same row other) = record { fact = fact; row = row; other = other } ∷ []
same_of fact (atom.Other row other) = []
same_of fact (atom.IsNull row column) = []
same_of fact (atom.NotNull row column) = []
same_of fact (atom.Le left right most) = []
same_of fact (atom.TextEq left right) = []
same_of fact (atom.TextNe left right) = []

-- the rows that are two
abbrev pub other_of : ℕ → Atom → List Join
other_of fact (atom.Other row other) = record { fact = fact; row = row; other = other } ∷ []
other_of fact (atom.Same row other) = []
other_of fact (atom.IsNull row column) = []
other_of fact (atom.NotNull row column) = []
other_of fact (atom.Le left right most) = []
other_of fact (atom.TextEq left right) = []
other_of fact (atom.TextNe left right) = []

-- the cell that is NULL
abbrev pub null_of : ℕ → Atom → List Named
null_of fact (atom.IsNull row column) = record { fact = fact; row = row; column = column } ∷ []
null_of fact (atom.Same row other) = []
null_of fact (atom.Other row other) = []
null_of fact (atom.NotNull row column) = []
null_of fact (atom.Le left right most) = []
null_of fact (atom.TextEq left right) = []
null_of fact (atom.TextNe left right) = []

abbrev pub firm_side : ℕ → Side → List Named
firm_side fact (side.Cell row column) = record { fact = fact; row = row; column = column } ∷ []
firm_side fact side.Zero = []
firm_side fact (side.Text text) = []

-- the cells that are not NULL
abbrev pub firm_of : ℕ → Atom → List Named
firm_of fact (atom.NotNull row column) = record { fact = fact; row = row; column = column } ∷ []
firm_of fact (atom.Le left right most) = firm_side fact left ++ firm_side fact right
firm_of fact (atom.TextEq left right) = firm_side fact left ++ firm_side fact right
firm_of fact (atom.TextNe left right) = firm_side fact left ++ firm_side fact right
firm_of fact (atom.IsNull row column) = []
firm_of fact (atom.Same row other) = []
firm_of fact (atom.Other row other) = []

abbrev pub cell_of : Side → Option Cell
cell_of (side.Cell row column) = Some (record { row = row; column = column })
cell_of side.Zero = None
cell_of (side.Text text) = None

-- the bound of a difference
abbrev pub bound_of : ℕ → Atom → List Bound
bound_of fact (atom.Le left right most) = record { fact = fact; left = cell_of left; right = cell_of right; most = most } ∷ []
bound_of fact (atom.IsNull row column) = []
bound_of fact (atom.NotNull row column) = []
bound_of fact (atom.Same row other) = []
bound_of fact (atom.Other row other) = []
bound_of fact (atom.TextEq left right) = []
bound_of fact (atom.TextNe left right) = []

-- what is told of each literal, the first of which has this number
abbrev pub gathered : {X : Type 0} → (ℕ → Atom → List X) → ℕ → List Literal → List X
gathered of number [] = []
gathered of number (l ∷ ls) = of number l.atom ++ gathered of (suc number) ls
