-- What is answered of the bounds that literals ask for.
use Rattle.std.specs.Prelude.{◌≡◌, ◌≤◌, ℕ, ℤ, List, [], length, map, ⊤}
use Rattle.diff_bounds.specs.declared.system.Edge.{Edge}
use Rattle.diff_bounds.specs.Rings.{IsNegativeRing, IsSimple}
use Rattle.diff_bounds.specs.System.{Satisfies, value_in}
use Rattle.lint_core.specs.declared.certificate.Step.{Step}
use Rattle.lint_core.specs.declared.certificate.Step.TheVariants as step
use Rattle.ground_theory.specs.declared.counting.Counted.{Counted}
use Rattle.ground_theory.specs.declared.counting.Counted.TheVariants.{Numbers, Leaf}
use Rattle.ground_theory.specs.declared.numbering.Cell.{Cell}
use Rattle.ground_theory.specs.declared.numbers.Stated.{Stated}
use Rattle.ground_theory.specs.inner.Rings.{chain_of, from_zero, cut_ring}

abbrev pub edge_in : Stated → Edge
edge_in s = s.edge

abbrev pub IfNumbers : Counted → (List ℤ → Type 0) → Type 0
IfNumbers (Numbers values) P = P values
IfNumbers (Leaf leaf) P = ⊤

abbrev pub IfLeaf : Counted → (Step → Type 0) → Type 0
IfLeaf (Numbers values) P = ⊤
IfLeaf (Leaf leaf) P = P leaf

-- a number for each variable, which meet the bounds
pub record AreNumbers (vars : ℕ) (stated : List Stated) (values : List ℤ) : Type 0 where
  pub count : length values ≡ vars
  pub satisfied : Satisfies (value_in values) (map edge_in stated)

-- the leaf of a ring of them
pub record IsRingLeaf (vars : ℕ) (cells : List Cell) (stated : List Stated) (leaf : Step) : Type 0 where
  pub ring : List ℕ
  pub is : leaf ≡ step.Sum (cut_ring cells (from_zero [] (chain_of stated ring)))
  pub negative : IsNegativeRing (map edge_in stated) ring
  pub short : length ring ≤ vars
  pub simple : IsSimple (map edge_in stated) ring
