-- The system of the edges that are listed.
use Rattle.std.specs.Prelude.{◌≡◌, ◌+◌, ℕ, zero, suc, List, length, Some}
use Rattle.diff_bounds.specs.System.{IsAmong}
use Rattle.sort_formula.specs.declared.formula.Side.{Side}
use Rattle.sort_formula.specs.declared.formula.Side.TheVariants as side
use Rattle.ground_theory.specs.declared.literal.Frame.{Frame}
use Rattle.ground_theory.specs.declared.literal.Literal.{Literal}
use Rattle.ground_theory.specs.declared.numbering.Cell.{Cell}
use Rattle.ground_theory.specs.declared.numbers.Stated.{Stated}
use Rattle.ground_theory.specs.Edges.{between, stated}
use Rattle.ground_theory.specs.inner.Numbering.{cell_at}

-- what a variable stands for
abbrev pub variable_side : List Cell → ℕ → Side
variable_side cells zero = side.Zero
variable_side cells (suc n) = side.Cell (cell_at cells n).row (cell_at cells n).column

-- the edge has the bound that its origin states, and its ends are variables
pub record IsRight (frame : Frame) (literals : List Literal) (cells : List Cell) (s : Stated) : Type 0 where
  pub states : stated frame literals s.origin ≡ Some (between (variable_side cells) s.edge)
  pub among : IsAmong (length cells + 1) s.edge
