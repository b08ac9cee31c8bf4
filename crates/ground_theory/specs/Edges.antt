-- The difference bounds that literals ask for: each Le, the bounds of the cells that a Le names, and that the cells of a number
-- column are equal in two rows that are one. A variable stands for a cell, and the first one for zero. An origin is the edge of
-- a certificate that states a bound.
use Rattle.std.specs.Prelude.{◌≡◌, ℕ, suc, pos, List, [], ◌∷◌, ◌++◌, Option, Some, unwrap_or}
use Rattle.std.specs.List.{AllZip}
use Rattle.diff_bounds.specs.declared.system.Edge.{Edge}
use Rattle.lint_core.specs.declared.certificate.SumEdge.{SumEdge}
use Rattle.lint_core.specs.declared.certificate.SumEdge.TheVariants as edge
use Rattle.lint_core.specs.declared.schema.Domain.{Domain}
use Rattle.lint_core.specs.declared.schema.Domain.TheVariants as domain
use Rattle.sort_formula.specs.declared.formula.Side.{Side}
use Rattle.sort_formula.specs.declared.formula.Side.TheVariants as side
use Rattle.sort_formula.specs.declared.formula.Atom.{Atom}
use Rattle.sort_formula.specs.declared.formula.Atom.TheVariants as atom
use Rattle.sort_formula.specs.Facts.{domain_at}
use Rattle.sort_formula.specs.Rings.{Bound, bound_of}
use Rattle.ground_theory.specs.declared.literal.Frame.{Frame}
use Rattle.ground_theory.specs.declared.literal.Literal.{Literal}
use Rattle.ground_theory.specs.Assignments.{domains_at}
use Rattle.ground_theory.specs.Leaves.{bare_schema, literal_branch}

-- ---- origins

-- the bounds of a cell
abbrev pub side_edges : Side → List SumEdge
side_edges (side.Cell row column) = edge.Low row column ∷ edge.High row column ∷ []
side_edges side.Zero = []
side_edges (side.Text text) = []

-- both ways for each number column, from this column on
abbrev pub same_edges : ℕ → ℕ → List Domain → List SumEdge
same_edges fact column [] = []
same_edges fact column (domain.Number least greatest unit ∷ ds) = edge.Same fact column ∷ edge.Back fact column ∷ same_edges fact (suc column) ds
same_edges fact column (domain.Text length ∷ ds) = same_edges fact (suc column) ds

module _ (frame : Frame) where
  abbrev pub edges_of : ℕ → Atom → List SumEdge
  edges_of fact (atom.Le left right most) = edge.Fact fact ∷ side_edges left ++ side_edges right
  edges_of fact (atom.Same row other) = same_edges fact 0 (domains_at frame row)
  edges_of fact (atom.TextEq left right) = []
  edges_of fact (atom.TextNe left right) = []
  edges_of fact (atom.IsNull row column) = []
  edges_of fact (atom.NotNull row column) = []
  edges_of fact (atom.Other row other) = []

  abbrev pub edges_from : ℕ → List Literal → List SumEdge
  edges_from fact [] = []
  edges_from fact (l ∷ ls) = edges_of fact l.atom ++ edges_from (suc fact) ls

  -- the origins of all bounds that the literals ask for
  abbrev pub sum_edges : List Literal → List SumEdge
  sum_edges literals = edges_from 0 literals

-- ---- the system of their bounds

-- the bound of an edge, between the sides that its two variables stand for
abbrev pub between : (ℕ → Side) → Edge → Bound
between side_of e = record { left = side_of e.left; right = side_of e.right; most = e.most }

module _ (frame : Frame) (literals : List Literal) where
  abbrev pub domain_of : ℕ → ℕ → Option Domain
  domain_of row column = domain_at (bare_schema frame) (literal_branch frame literals) row column

  -- what an edge states over the literals
  abbrev pub stated : SumEdge → Option Bound
  stated e = bound_of (bare_schema frame) (literal_branch frame literals) e

  abbrev pub bound : SumEdge → Bound
  bound e = unwrap_or (stated e) (record { left = side.Zero; right = side.Zero; most = pos 0 })

  -- each edge has the bound that its origin states, and no variable but the first stands for zero
  pub record IsSystem (side_of : ℕ → Side) (origins : List SumEdge) (edges : List Edge) : Type 0 where
    pub zero : (n : ℕ) → side_of n ≡ side.Zero → n ≡ 0
    pub states : AllZip (λ o e. stated o ≡ Some (between side_of e)) origins edges

-- the edge of an origin, between the variables of its sides
abbrev pub edge_of : Frame → List Literal → (Side → ℕ) → SumEdge → Edge
edge_of frame literals number o =
    record { left = number (bound frame literals o).left; right = number (bound frame literals o).right; most = (bound frame literals o).most }
