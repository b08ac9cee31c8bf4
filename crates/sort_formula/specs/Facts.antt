-- What a reader of a certificate keeps of one branch: its facts, and the table of each of its rows. A fact is a
-- formula with the number of a row of the branch for each of its free variables. Facts and rows count from 0.
use Rattle.std.specs.Prelude.{ℕ, Bool, true, false, ◌&&◌, nat_eq, List, Option, Some, None, slice_get, option_and_then}
use Rattle.lint_core.specs.declared.schema.Domain.{Domain}
use Rattle.lint_core.specs.declared.schema.Column.{Column}
use Rattle.lint_core.specs.declared.schema.Table.{Table}
use Rattle.lint_core.specs.Comparison.{is_same_text}
use Rattle.sort_formula.specs.declared.formula.Side.{Side}
use Rattle.sort_formula.specs.declared.formula.Side.TheVariants as side
use Rattle.sort_formula.specs.declared.formula.Atom.{Atom}
use Rattle.sort_formula.specs.declared.formula.Atom.TheVariants as atom
use Rattle.sort_formula.specs.declared.formula.Formula.{Formula, out-Formula}
use Rattle.sort_formula.specs.declared.formula.Formula.TheOpen.{Formula-F}

pub record Fact : Type 0 where
  pub formula : Formula
  pub rows : List ℕ

pub record Branch : Type 0 where
  pub facts : List Fact
  pub tables : List ℕ

-- ---- an atom of the branch's rows

-- the rows of a fact stand in for its variables; none where one of them has no row
module _ (rows : List ℕ) where
  abbrev pub side_at : Side → Option Side
  side_at (side.Cell row column) = option_and_then (λ r. Some (side.Cell r column)) (slice_get rows row)
  side_at side.Zero = Some side.Zero
  side_at (side.Text text) = Some (side.Text text)

  abbrev pub sides_at : (Side → Side → Atom) → Side → Side → Option Atom
  sides_at make left right = option_and_then (λ l. option_and_then (λ r. Some (make l r)) (side_at right)) (side_at left)

  abbrev pub rows_at : (ℕ → ℕ → Atom) → ℕ → ℕ → Option Atom
  rows_at make row other = option_and_then (λ r. option_and_then (λ s. Some (make r s)) (slice_get rows other)) (slice_get rows row)

  abbrev pub cell_at : (ℕ → ℕ → Atom) → ℕ → ℕ → Option Atom
  cell_at make row column = option_and_then (λ r. Some (make r column)) (slice_get rows row)

  abbrev pub atom_at : Atom → Option Atom
  atom_at (atom.Le left right most) = sides_at (λ l r. atom.Le l r most) left right
  atom_at (atom.TextEq left right) = sides_at atom.TextEq left right
  atom_at (atom.TextNe left right) = sides_at atom.TextNe left right
  atom_at (atom.IsNull row column) = cell_at atom.IsNull row column
  atom_at (atom.NotNull row column) = cell_at atom.NotNull row column
  atom_at (atom.Same row other) = rows_at atom.Same row other
  atom_at (atom.Other row other) = rows_at atom.Other row other

  abbrev pub atom_in : Formula-F Formula → Option Atom
  atom_in (Formula-F.Atom a) = atom_at a
  atom_in layer = None

-- the atom that a fact of the branch is, if it is one
abbrev pub atom_of : Branch → ℕ → Option Atom
atom_of branch fact = option_and_then (λ (x : Fact). atom_in x.rows (out-Formula x.formula)) (slice_get branch.facts fact)

-- the two rows that a fact says are one
abbrev pub same_rows_in : Atom → Option (ℕ × ℕ)
same_rows_in (atom.Same row other) = Some (row, other)
same_rows_in a = None

abbrev pub same_rows_of : Branch → ℕ → Option (ℕ × ℕ)
same_rows_of branch fact = option_and_then same_rows_in (atom_of branch fact)

-- ---- cells of the branch's rows

-- the domain of a column of a row
abbrev pub domain_at : List Table → Branch → ℕ → ℕ → Option Domain
domain_at schema branch row column =
    option_and_then (λ t. option_and_then (λ (table : Table). option_and_then (λ (c : Column). Some c.domain) (slice_get table.columns column)) (slice_get schema t)) (slice_get branch.tables row)

-- the same cell, or both 0, or the same text
abbrev pub is_same_side : Side → Side → Bool
is_same_side (side.Cell row column) (side.Cell other second) = nat_eq row other && nat_eq column second
is_same_side side.Zero side.Zero = true
is_same_side (side.Text text) (side.Text other) = is_same_text text other
is_same_side a b = false
