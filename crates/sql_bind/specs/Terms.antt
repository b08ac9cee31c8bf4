-- Terms, and which of them may be compared (ISO/IEC 9075:1992, 8.2, syntax rules).
use Rattle.std.specs.Prelude.{ℤ, Bool, List, Ok}
use Rattle.lint_tables.specs.declared.op.Op.{Op}
use Rattle.sql_tree.specs.declared.term.TermTree.{TermTree}
use Rattle.sql_tree.specs.declared.term.TermTree.TheVariants as tree
use Rattle.lint_core.specs.declared.condition.Term.{Term}
use Rattle.lint_core.specs.declared.condition.Term.TheVariants.{Cell, Number, Text, Null}
use Rattle.lint_core.specs.declared.schema.Unit.TheVariants.{Whole}
use Rattle.lint_core.specs.declared.schema.Table.{Table}
use Rattle.lint_core.specs.Fits.{term_kind}
use Rattle.lint_core.specs.Kind.{compares_both}
use Rattle.sql_bind.specs.Bound.{Bound, and_then}
use Rattle.sql_bind.specs.Names.{Level, level_tables, find_column}

-- a column with a number added
abbrev pub with_added : ℤ → Term → Term
with_added added (Cell level entry column plus) = Cell level entry column added
with_added added (Number value unit) = Number value unit
with_added added (Text text) = Text text
with_added added Null = Null

module _ (schema : List Table) where
  abbrev pub bind_term : List Level → TermTree → Bound Term
  bind_term levels (tree.Column table name added span) = and_then (find_column schema table name levels) (λ cell. Ok (with_added added cell))
  bind_term levels (tree.Number value span) = Ok (Number value Whole)
  bind_term levels (tree.Text text span) = Ok (Text text)
  bind_term levels (tree.Null span) = Ok Null

  -- numbers go with numbers, texts with texts by = and <> alone, and NULL with either; nothing is added to a text
  abbrev pub compares : List Level → Op → Term → Term → Bool
  compares levels op a b = compares_both op (term_kind schema (level_tables levels) a) (term_kind schema (level_tables levels) b)
