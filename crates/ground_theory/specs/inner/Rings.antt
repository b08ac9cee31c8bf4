-- The Sum leaf of a ring, from what its edges say between variables.
use Rattle.std.specs.Prelude.{◌||◌, ◌&&◌, ◌-◌, ℕ, Bool, false, nat_eq, List, [], ◌∷◌, ◌++◌, map, Option, Some, None, pos, slice_get, slice_index_or, if◌then◌else◌}
use Rattle.lint_core.specs.declared.certificate.SumEdge.{SumEdge}
use Rattle.lint_core.specs.declared.certificate.SumEdge.TheVariants as edge
use Rattle.sort_formula.specs.Rings.{is_fact, is_low, is_high}
use Rattle.ground_theory.specs.declared.numbering.Cell.{Cell}
use Rattle.ground_theory.specs.declared.numbers.Stated.{Stated}
use Rattle.ground_theory.specs.SumLeaf.{is_same}

abbrev pub stated_at : List Stated → ℕ → Stated
stated_at stated n = slice_index_or stated n (record { origin = edge.Fact 0; edge = record { left = 0; right = 0; most = pos 0 } })

-- the edges of these numbers
abbrev pub chain_of : List Stated → List ℕ → List Stated
chain_of stated ring = map (stated_at stated) ring

-- the chain from the edge that leaves zero on, if one does
abbrev pub from_zero : List Stated → List Stated → List Stated
from_zero before [] = before
from_zero before (s ∷ ss) = if nat_eq s.edge.left 0 then (s ∷ ss) ++ before else from_zero (before ++ s ∷ []) ss

-- Sames, and then a High
abbrev pub leads_high : List Stated → Bool
leads_high [] = false
leads_high (s ∷ ss) = is_high s.origin || (is_same s.origin && leads_high ss)

module _ (cells : List Cell) where
  -- the cell of a variable
  abbrev pub cell_of_variable : ℕ → Option Cell
  cell_of_variable variable = if nat_eq variable 0 then None else slice_get cells (variable - 1)

  abbrev pub low_of : Option Cell → List SumEdge
  low_of None = []
  low_of (Some cell) = edge.Low cell.row cell.column ∷ []

  abbrev pub high_of : Option Cell → List SumEdge
  high_of None = []
  high_of (Some cell) = edge.High cell.row cell.column ∷ []

  -- without the Sames before a High
  abbrev pub cut_back : List Stated → List SumEdge
  cut_back [] = []
  cut_back (s ∷ ss) = s.origin ∷ (if is_fact s.origin && leads_high ss then high_of (cell_of_variable s.edge.right) else cut_back ss)

  -- without the Sames at the front, and with a Low there
  abbrev pub cut_front : List Stated → List SumEdge
  cut_front [] = []
  cut_front (s ∷ ss) = if is_same s.origin then cut_front ss else low_of (cell_of_variable s.edge.left) ++ cut_back (s ∷ ss)

  abbrev pub cut_ring : List Stated → List SumEdge
  cut_ring [] = []
  cut_ring (s ∷ ss) = if is_low s.origin then cut_front ss else cut_back (s ∷ ss)
