-- The constraints of a schema as sentences (ISO/IEC 9075:1992, 4.10): table by table NOT NULL, keys, CHECKs and
-- foreign keys. A database of the domains meets the schema exactly where all of them hold.
use Rattle.std.specs.Prelude.{ℕ, suc, Bool, List, [], ◌∷◌, ◌++◌, map, Option, Some, None, if◌then◌else◌}
use Rattle.std.specs.List.{flat_map, zip}
use Rattle.std.specs.Option.{option_map_or}
use Rattle.lint_core.specs.declared.condition.Cond.{Cond}
use Rattle.lint_core.specs.declared.database.KeyName.{KeyName}
use Rattle.lint_core.specs.declared.schema.Column.{Column}
use Rattle.lint_core.specs.declared.schema.Key.{Key}
use Rattle.lint_core.specs.declared.schema.ForeignKey.{ForeignKey}
use Rattle.lint_core.specs.declared.schema.Table.{Table}
use Rattle.lint_core.specs.Kind.{column_kind, is_text}
use Rattle.sort_formula.specs.declared.formula.Side.TheVariants as side
use Rattle.sort_formula.specs.declared.formula.Atom.TheVariants as atom
use Rattle.sort_formula.specs.declared.formula.Formula.{Formula}
use Rattle.sort_formula.specs.declared.formula.Formula.TheVariants as f
use Rattle.sort_formula.specs.Cells.{equal_cells, different_cells}
use Rattle.sort_formula.specs.Negated.{negated}
use Rattle.lint_core.specs.declared.scope.Scope.{Scope}
use Rattle.sort_formula.specs.Translation.{is_false_formula}

-- a sentence, and the foreign key that it states, if it states one
pub record Axiom : Type 0 where
  pub sentence : Formula
  pub key : Option KeyName

abbrev pub plain : Formula → Axiom
plain sentence = record { sentence = sentence; key = None }

abbrev pub is_text_column : Table → ℕ → Bool
is_text_column table column = option_map_or is_text (column_kind table column) Bool.false

module _ (schema : List Table) (number : ℕ) (table : Table) where
  -- no NULL in the column
  abbrev pub not_null_axiom : ℕ → Axiom
  not_null_axiom column = plain (f.Forall number (f.Atom (atom.NotNull 0 column)))

  -- those of the columns that are marked, the first of which has this number
  abbrev pub not_null_axioms : ℕ → List Column → List Axiom
  not_null_axioms column [] = []
  not_null_axioms column (c ∷ cs) = (if c.not_null then not_null_axiom column ∷ [] else []) ++ not_null_axioms (suc column) cs

  -- of two rows, that a column of the key is NULL in one, or differs
  abbrev pub key_column : ℕ → List Formula
  key_column column =
      f.Atom (atom.IsNull 0 column) ∷ f.Atom (atom.IsNull 1 column)
      ∷ different_cells (is_text_column table column) (side.Cell 0 column) (side.Cell 1 column)

  -- any two rows are one row, or differ in the key or have a NULL there
  abbrev pub key_axiom : Key → Axiom
  key_axiom key = plain (f.Forall number (f.Forall number (f.Or (f.Atom (atom.Same 0 1) ∷ flat_map key_column key.columns))))

  -- the CHECK is false at no row
  abbrev pub row_scope : Scope
  row_scope = record { levels = (0 ∷ []) ∷ []; tables = (number ∷ []) ∷ []; depth = 1 }

  abbrev pub check_axiom : Cond → Axiom
  check_axiom check = plain (f.Forall number (negated (is_false_formula schema check row_scope)))

  -- a column equals its pair in a row of the target
  abbrev pub pair_equal : (ℕ × ℕ) → List Formula
  pair_equal pair = equal_cells (is_text_column table pair.0) (side.Cell 0 pair.0) (side.Cell 1 pair.1)

  -- each row has a NULL among its own columns, or some row of the target equals in all pairs
  abbrev pub foreign_sentence : ForeignKey → Formula
  foreign_sentence key =
      f.Forall number (f.Or (
      map (λ column. f.Atom (atom.IsNull 0 column)) key.columns
      ++ f.Exists key.target (f.And (flat_map pair_equal (zip key.columns key.target_columns))) ∷ []
      ))

  -- those of the foreign keys, the first of which has this number
  abbrev pub foreign_axioms : ℕ → List ForeignKey → List Axiom
  foreign_axioms index [] = []
  foreign_axioms index (key ∷ keys) =
      record { sentence = foreign_sentence key; key = Some (record { table = number; index = index }) } ∷ foreign_axioms (suc index) keys

  abbrev pub table_axioms : List Axiom
  table_axioms =
      not_null_axioms 0 table.columns
      ++ map key_axiom table.keys
      ++ map check_axiom table.checks
      ++ foreign_axioms 0 table.foreign

-- those of the tables, the first of which has this number
abbrev pub axioms_from : List Table → ℕ → List Table → List Axiom
axioms_from schema number [] = []
axioms_from schema number (table ∷ tables) = table_axioms schema number table ++ axioms_from schema (suc number) tables

abbrev pub axioms : List Table → List Axiom
axioms schema = axioms_from schema 0 schema
