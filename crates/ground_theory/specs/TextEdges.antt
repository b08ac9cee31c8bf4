-- The facts about texts that literals ask for: each TextEq and TextNe, and that the cells of a text column are the same in two
-- rows that are one. An origin is the edge of a certificate that leads from a fact's left side to its right one.
use Rattle.std.specs.Prelude.{◌≡◌, ℕ, suc, Bool, true, false, List, [], ◌∷◌, ◌++◌, Option, Some, None, option_and_then, unwrap_or, if◌then◌else◌}
use Rattle.std.specs.List.{AllZip}
use Rattle.std.specs.Option.{is_some}
use Rattle.lint_core.specs.declared.certificate.TextEdge.{TextEdge}
use Rattle.lint_core.specs.declared.certificate.TextEdge.TheVariants as edge
use Rattle.lint_core.specs.declared.schema.Domain.{Domain}
use Rattle.lint_core.specs.declared.schema.Domain.TheVariants as domain
use Rattle.sort_formula.specs.declared.formula.Side.{Side}
use Rattle.sort_formula.specs.declared.formula.Side.TheVariants as side
use Rattle.sort_formula.specs.declared.formula.Atom.{Atom}
use Rattle.sort_formula.specs.declared.formula.Atom.TheVariants as atom
use Rattle.sort_formula.specs.Chains.{ends_of}
use Rattle.sort_formula.specs.Facts.{atom_of}
use Rattle.text_classes.specs.declared.facts.TextEnd.{TextEnd}
use Rattle.text_classes.specs.declared.facts.TextEnd.TheVariants as end
use Rattle.text_classes.specs.declared.facts.TextFact.{TextFact}
use Rattle.ground_theory.specs.declared.literal.Frame.{Frame}
use Rattle.ground_theory.specs.declared.literal.Literal.{Literal}
use Rattle.ground_theory.specs.Assignments.{domains_at}
use Rattle.ground_theory.specs.Leaves.{bare_schema, literal_branch}

-- ---- origins

-- of each text column, from this column on
abbrev pub same_texts : ℕ → ℕ → List Domain → List TextEdge
same_texts fact column [] = []
same_texts fact column (domain.Number least greatest unit ∷ ds) = same_texts fact (suc column) ds
same_texts fact column (domain.Text length ∷ ds) = edge.Same fact column ∷ same_texts fact (suc column) ds

module _ (frame : Frame) where
  abbrev pub texts_of : ℕ → Atom → List TextEdge
  texts_of fact (atom.TextEq left right) = edge.Fact fact ∷ []
  texts_of fact (atom.TextNe left right) = edge.Fact fact ∷ []
  texts_of fact (atom.Same row other) = same_texts fact 0 (domains_at frame row)
  texts_of fact (atom.Le left right most) = []
  texts_of fact (atom.IsNull row column) = []
  texts_of fact (atom.NotNull row column) = []
  texts_of fact (atom.Other row other) = []

  abbrev pub texts_from : ℕ → List Literal → List TextEdge
  texts_from fact [] = []
  texts_from fact (l ∷ ls) = texts_of fact l.atom ++ texts_from (suc fact) ls

  -- the origins of all facts that the literals ask for
  abbrev pub text_edges : List Literal → List TextEdge
  text_edges literals = texts_from 0 literals

-- ---- the system of their facts

abbrev pub unequal_sides : Atom → Option (Side × Side)
unequal_sides (atom.TextNe left right) = Some (left, right)
unequal_sides a = None

abbrev pub fact_in : TextEdge → ℕ
fact_in (edge.Fact fact) = fact
fact_in (edge.FactBack fact) = fact
fact_in (edge.Same fact column) = fact
fact_in (edge.Back fact column) = fact

abbrev pub is_fact : TextEdge → Bool
is_fact (edge.Fact fact) = true
is_fact (edge.FactBack fact) = false
is_fact (edge.Same fact column) = false
is_fact (edge.Back fact column) = false

abbrev pub end_side : (ℕ → Side) → TextEnd → Side
end_side side_of (end.Var n) = side_of n
end_side side_of (end.Text text) = side.Text text

module _ (frame : Frame) (literals : List Literal) where
  -- the two sides that an edge says are the same
  abbrev pub equal_ends : TextEdge → Option (Side × Side)
  equal_ends o = ends_of (bare_schema frame) (literal_branch frame literals) o

  -- the two sides that a fact says are not
  abbrev pub unequal_ends : TextEdge → Option (Side × Side)
  unequal_ends o = if is_fact o then option_and_then unequal_sides (atom_of (literal_branch frame literals) (fact_in o)) else None

  abbrev pub ends : Bool → TextEdge → Option (Side × Side)
  ends equal o = if equal then equal_ends o else unequal_ends o

  -- each fact says of its two sides what its origin says
  abbrev pub IsTextSystem : (ℕ → Side) → List TextEdge → List TextFact → Type 0
  IsTextSystem side_of origins facts = AllZip (λ o (f : TextFact). ends f.equal o ≡ Some (end_side side_of f.left, end_side side_of f.right)) origins facts

  -- whether a fact says that its sides are the same, and its sides
  abbrev pub is_equal : TextEdge → Bool
  is_equal o = is_some (equal_ends o)

  abbrev pub both_sides : TextEdge → Side × Side
  both_sides o = unwrap_or (ends (is_equal o) o) (side.Zero, side.Zero)

  -- the fact of an origin, between the ends of its sides
  abbrev pub text_fact : (Side → TextEnd) → TextEdge → TextFact
  text_fact end_of_side o = record { left = end_of_side (both_sides o).0; right = end_of_side (both_sides o).1; equal = is_equal o }

  -- each side of an origin has its end
  abbrev pub HasEnds : (ℕ → Side) → (Side → TextEnd) → TextEdge → Type 0
  HasEnds side_of end_of_side o =
      (end_side side_of (end_of_side (both_sides o).0) ≡ (both_sides o).0) × (end_side side_of (end_of_side (both_sides o).1) ≡ (both_sides o).1)
