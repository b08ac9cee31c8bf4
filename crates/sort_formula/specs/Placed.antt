-- A formula in another place: its free variables are given new numbers, and its own quantifiers are counted from
-- another depth.
use Rattle.std.specs.Prelude.{ℕ, ◌+◌, ◌-◌, List, length, slice_get, unwrap_or}
use Rattle.sort_formula.specs.declared.formula.Side.{Side}
use Rattle.sort_formula.specs.declared.formula.Side.TheVariants as side
use Rattle.sort_formula.specs.declared.formula.Atom.{Atom}
use Rattle.sort_formula.specs.declared.formula.Atom.TheVariants as atom
use Rattle.sort_formula.specs.declared.formula.Formula.{Formula, fold-Formula}
use Rattle.sort_formula.specs.declared.formula.Formula.TheVariants as f
use Rattle.sort_formula.specs.declared.formula.Formula.TheOpen.{Formula-F}

-- the new numbers of the free variables, and the depth at which the formula's own quantifiers begin
module _ (numbers : List ℕ) (depth : ℕ) where
  -- a free variable has its new number; the others follow from the depth on
  abbrev pub placed_row : ℕ → ℕ
  placed_row row = unwrap_or (slice_get numbers row) (depth + (row - length numbers))

  abbrev pub placed_side : Side → Side
  placed_side (side.Cell row column) = side.Cell (placed_row row) column
  placed_side side.Zero = side.Zero
  placed_side (side.Text text) = side.Text text

  abbrev pub placed_atom : Atom → Atom
  placed_atom (atom.Le left right most) = atom.Le (placed_side left) (placed_side right) most
  placed_atom (atom.TextEq left right) = atom.TextEq (placed_side left) (placed_side right)
  placed_atom (atom.TextNe left right) = atom.TextNe (placed_side left) (placed_side right)
  placed_atom (atom.IsNull row column) = atom.IsNull (placed_row row) column
  placed_atom (atom.NotNull row column) = atom.NotNull (placed_row row) column
  placed_atom (atom.Same row other) = atom.Same (placed_row row) (placed_row other)
  placed_atom (atom.Other row other) = atom.Other (placed_row row) (placed_row other)

  abbrev pub placed_step : Formula-F Formula → Formula
  placed_step (Formula-F.Atom a) = f.Atom (placed_atom a)
  placed_step (Formula-F.And parts) = f.And parts
  placed_step (Formula-F.Or parts) = f.Or parts
  placed_step (Formula-F.Exists table body) = f.Exists table body
  placed_step (Formula-F.Forall table body) = f.Forall table body

  abbrev pub placed : Formula → Formula
  placed = fold-Formula Formula placed_step
