-- A closing step in another branch: its facts have other numbers, and its rows are other rows.
use Rattle.std.specs.Prelude.{◌≡◌, ℕ, Bool, true, false, ◌||◌, nat_eq, List, map, option_and_then, Some, slice_get}
use Rattle.lint_core.specs.declared.certificate.SameEdge.{SameEdge}
use Rattle.lint_core.specs.declared.certificate.Step.{Step}
use Rattle.lint_core.specs.declared.certificate.Step.TheVariants as step
use Rattle.lint_core.specs.declared.certificate.SumEdge.{SumEdge}
use Rattle.lint_core.specs.declared.certificate.SumEdge.TheVariants as sum
use Rattle.lint_core.specs.declared.certificate.TextEdge.{TextEdge}
use Rattle.lint_core.specs.declared.certificate.TextEdge.TheVariants as text
use Rattle.sort_formula.specs.declared.formula.Side.{Side}
use Rattle.sort_formula.specs.declared.formula.Side.TheVariants as side
use Rattle.sort_formula.specs.declared.formula.Atom.{Atom}
use Rattle.sort_formula.specs.declared.formula.Atom.TheVariants as atom
use Rattle.lint_core.specs.declared.schema.Table.{Table}
use Rattle.sort_formula.specs.Facts.{Branch, atom_of, domain_at}
use Rattle.ground_theory.specs.declared.literal.Frame.{Frame}
use Rattle.ground_theory.specs.declared.literal.Literal.{Literal}
use Rattle.ground_theory.specs.Edges.{domain_of}

module _ (facts rows : ℕ → ℕ) where
  abbrev pub moved_sum : SumEdge → SumEdge
  moved_sum (sum.Fact fact) = sum.Fact (facts fact)
  moved_sum (sum.Low row column) = sum.Low (rows row) column
  moved_sum (sum.High row column) = sum.High (rows row) column
  moved_sum (sum.Same fact column) = sum.Same (facts fact) column
  moved_sum (sum.Back fact column) = sum.Back (facts fact) column

  abbrev pub moved_text : TextEdge → TextEdge
  moved_text (text.Fact fact) = text.Fact (facts fact)
  moved_text (text.FactBack fact) = text.FactBack (facts fact)
  moved_text (text.Same fact column) = text.Same (facts fact) column
  moved_text (text.Back fact column) = text.Back (facts fact) column

  abbrev pub moved_path : List SameEdge → List SameEdge
  moved_path path = map (λ (e : SameEdge). record { fact = facts e.fact; back = e.back }) path

  -- the steps that open a fact are no closing steps
  abbrev pub moved : Step → Step
  moved (step.Sum edges) = step.Sum (map moved_sum edges)
  moved (step.Text last edges) = step.Text (option_and_then (λ f. Some (facts f)) last) (map moved_text edges)
  moved (step.Null fact other path) = step.Null (facts fact) (facts other) (moved_path path)
  moved (step.Same fact path) = step.Same (facts fact) (moved_path path)
  moved (step.And fact) = step.And fact
  moved (step.Or fact) = step.Or fact
  moved (step.Ex fact) = step.Ex fact
  moved (step.All fact row) = step.All fact row

module _ (rows : ℕ → ℕ) where
  abbrev pub renamed_side : Side → Side
  renamed_side (side.Cell row column) = side.Cell (rows row) column
  renamed_side side.Zero = side.Zero
  renamed_side (side.Text text) = side.Text text

  abbrev pub renamed : Atom → Atom
  renamed (atom.Le left right most) = atom.Le (renamed_side left) (renamed_side right) most
  renamed (atom.TextEq left right) = atom.TextEq (renamed_side left) (renamed_side right)
  renamed (atom.TextNe left right) = atom.TextNe (renamed_side left) (renamed_side right)
  renamed (atom.IsNull row column) = atom.IsNull (rows row) column
  renamed (atom.NotNull row column) = atom.NotNull (rows row) column
  renamed (atom.Same row other) = atom.Same (rows row) (rows other)
  renamed (atom.Other row other) = atom.Other (rows row) (rows other)

abbrev pub side_has_row : ℕ → Side → Bool
side_has_row row (side.Cell other column) = nat_eq row other
side_has_row row side.Zero = false
side_has_row row (side.Text text) = false

-- the atom names a row
abbrev pub has_row : ℕ → Atom → Bool
has_row row (atom.Le left right most) = side_has_row row left || side_has_row row right
has_row row (atom.TextEq left right) = side_has_row row left || side_has_row row right
has_row row (atom.TextNe left right) = side_has_row row left || side_has_row row right
has_row row (atom.IsNull other column) = nat_eq row other
has_row row (atom.NotNull other column) = nat_eq row other
has_row row (atom.Same other second) = nat_eq row other || nat_eq row second
has_row row (atom.Other other second) = nat_eq row other || nat_eq row second

-- the facts of the branch at the moved numbers say what the literals say of the moved rows, whose columns have the domains of
-- the row terms' columns
pub record IsMoved (frame : Frame) (literals : List Literal) (facts rows : ℕ → ℕ) (schema : List Table) (branch : Branch) : Type 0 where
  pub atoms : (i : ℕ) (l : Literal) → slice_get literals i ≡ Some l → atom_of branch (facts i) ≡ Some (renamed rows l.atom)
  pub domains : (i : ℕ) (l : Literal) (row : ℕ) → slice_get literals i ≡ Some l → has_row row l.atom ≡ true →
      (column : ℕ) → domain_at schema branch (rows row) column ≡ domain_of frame literals row column
