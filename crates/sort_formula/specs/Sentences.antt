-- Which formulas are sentences: each variable is bound, Same and Other join variables of one table, and bounds lie
-- within plus or minus 2^66. And when a formula fits a schema: every table and column exists, Le compares number
-- cells and 0, TextEq and TextNe text cells and texts.
use Rattle.std.specs.Prelude.{ℕ, ◌^◌, ℤ, pos, neg_ℤ, Bool, true, false, ◌&&◌, nat_eq, nat_lt, List, [], ◌∷◌, ◌++◌, length, Option, slice_get, option_and_then, is_some}
use Rattle.std.specs.List.{list_all}
use Rattle.std.specs.Option.{option_map_or}
use Rattle.lint_core.specs.declared.schema.Kind.{Kind}
use Rattle.lint_core.specs.declared.schema.Kind.TheVariants as kind
use Rattle.lint_core.specs.declared.schema.Table.{Table}
use Rattle.lint_core.specs.Domain.{int_le}
use Rattle.lint_core.specs.Kind.{column_kind, is_text}
use Rattle.sort_formula.specs.declared.formula.Side.{Side}
use Rattle.sort_formula.specs.declared.formula.Side.TheVariants as side
use Rattle.sort_formula.specs.declared.formula.Atom.{Atom}
use Rattle.sort_formula.specs.declared.formula.Atom.TheVariants as atom
use Rattle.sort_formula.specs.declared.formula.Formula.{Formula, fold-Formula}
use Rattle.sort_formula.specs.declared.formula.Formula.TheOpen.{Formula-F}

-- what is said of a formula by the tables of the variables outside it
abbrev pub Meaning : Type 0
Meaning = List ℕ → Bool

-- one layer, from what is said of atoms and of the table of a quantifier
abbrev pub layer_is : (List ℕ → Atom → Bool) → (ℕ → Bool) → Formula-F Meaning → Meaning
layer_is atom_is table_is (Formula-F.Atom a) tables = atom_is tables a
layer_is atom_is table_is (Formula-F.And parts) tables = list_all (λ part. part tables) parts
layer_is atom_is table_is (Formula-F.Or parts) tables = list_all (λ part. part tables) parts
layer_is atom_is table_is (Formula-F.Exists table body) tables = table_is table && body (tables ++ table ∷ [])
layer_is atom_is table_is (Formula-F.Forall table body) tables = table_is table && body (tables ++ table ∷ [])

-- ---- sentences

abbrev pub is_variable : List ℕ → ℕ → Bool
is_variable tables row = nat_lt row (length tables)

abbrev pub has_variable : List ℕ → Side → Bool
has_variable tables (side.Cell row column) = is_variable tables row
has_variable tables side.Zero = true
has_variable tables (side.Text text) = true

-- plus or minus 2^66
abbrev pub is_moderate : ℤ → Bool
is_moderate most = int_le (neg_ℤ (pos (2 ^ 66))) most && int_le most (pos (2 ^ 66))

-- two variables of one table
abbrev pub are_of_one_table : List ℕ → ℕ → ℕ → Bool
are_of_one_table tables row other = option_map_or (λ t. option_map_or (nat_eq t) (slice_get tables other) false) (slice_get tables row) false

abbrev pub atom_is_bound : List ℕ → Atom → Bool
atom_is_bound tables (atom.Le left right most) = has_variable tables left && has_variable tables right && is_moderate most
atom_is_bound tables (atom.TextEq left right) = has_variable tables left && has_variable tables right
atom_is_bound tables (atom.TextNe left right) = has_variable tables left && has_variable tables right
atom_is_bound tables (atom.IsNull row column) = is_variable tables row
atom_is_bound tables (atom.NotNull row column) = is_variable tables row
atom_is_bound tables (atom.Same row other) = are_of_one_table tables row other
atom_is_bound tables (atom.Other row other) = are_of_one_table tables row other

-- each variable is bound, or one of these tables outside
abbrev pub is_bound : Formula → Meaning
is_bound = fold-Formula Meaning (layer_is atom_is_bound (λ table. true))

abbrev pub is_sentence : Formula → Bool
is_sentence formula = is_bound formula []

-- ---- formulas that fit

module _ (schema : List Table) where
  abbrev pub kind_at : List ℕ → ℕ → ℕ → Option Kind
  kind_at tables row column = option_and_then (λ t. option_and_then (λ table. column_kind table column) (slice_get schema t)) (slice_get tables row)

  abbrev pub is_number_kind : Kind → Bool
  is_number_kind kind.Null = false
  is_number_kind (kind.Number unit) = true
  is_number_kind kind.Text = false

  -- a number cell, or 0
  abbrev pub is_number_side : List ℕ → Side → Bool
  is_number_side tables (side.Cell row column) = option_map_or is_number_kind (kind_at tables row column) false
  is_number_side tables side.Zero = true
  is_number_side tables (side.Text text) = false

  -- a text cell, or a text
  abbrev pub is_text_side : List ℕ → Side → Bool
  is_text_side tables (side.Cell row column) = option_map_or is_text (kind_at tables row column) false
  is_text_side tables side.Zero = false
  is_text_side tables (side.Text text) = true

  abbrev pub atom_fits : List ℕ → Atom → Bool
  atom_fits tables (atom.Le left right most) = is_number_side tables left && is_number_side tables right
  atom_fits tables (atom.TextEq left right) = is_text_side tables left && is_text_side tables right
  atom_fits tables (atom.TextNe left right) = is_text_side tables left && is_text_side tables right
  atom_fits tables (atom.IsNull row column) = is_some (kind_at tables row column)
  atom_fits tables (atom.NotNull row column) = is_some (kind_at tables row column)
  atom_fits tables (atom.Same row other) = is_variable tables row && is_variable tables other
  atom_fits tables (atom.Other row other) = is_variable tables row && is_variable tables other

  -- by the tables of the variables outside it
  abbrev pub formula_fits : Formula → Meaning
  formula_fits = fold-Formula Meaning (layer_is atom_fits (λ table. nat_lt table (length schema)))
