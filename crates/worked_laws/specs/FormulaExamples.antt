-- Sentences that a key and two texts refute, and the steps that do it, for the laws `worked_steps` and
-- `worked_wrong_steps`. A comparison and a schema, for the law `worked_sentences`. A query of three entries, for the
-- law `worked_counters`.
use Rattle.std.specs.Prelude.{ℕ, ℤ, pos, neg_ℤ, false, List, [], ◌∷◌, None}
use Rattle.lint_core.specs.declared.certificate.SumEdge.TheVariants as edge
use Rattle.lint_core.specs.declared.certificate.TextEdge.TheVariants as text
use Rattle.lint_core.specs.declared.certificate.Step.{Step}
use Rattle.lint_core.specs.declared.certificate.Step.TheVariants as step
use Rattle.lint_core.specs.declared.schema.Domain.TheVariants.{Number, Text}
use Rattle.lint_core.specs.declared.schema.Unit.TheVariants.{Whole}
use Rattle.lint_core.specs.declared.schema.Table.{Table}
use Rattle.lint_core.specs.declared.condition.Block.{roll-Block}
use Rattle.lint_core.specs.declared.condition.Cond.TheVariants as c
use Rattle.lint_core.specs.declared.condition.Entry.{Entry}
use Rattle.lint_core.specs.declared.query.Query.{Query}
use Rattle.sort_formula.specs.declared.formula.Side.TheVariants as side
use Rattle.sort_formula.specs.declared.formula.Atom.TheVariants as atom
use Rattle.sort_formula.specs.declared.formula.Formula.{Formula}
use Rattle.sort_formula.specs.declared.formula.Formula.TheVariants as f
use Rattle.worked_laws.specs.Examples.{nowhere, query, written}

-- ---- a key

-- two rows of the first table, which are not one, have equal values in its first column
abbrev pub two_rows_agree : Formula
two_rows_agree =
    f.Exists 0 (f.Exists 0 (f.And (
    f.Atom (atom.Other 0 1)
    ∷ f.Atom (atom.Le (side.Cell 0 0) (side.Cell 1 0) (pos 0))
    ∷ f.Atom (atom.Le (side.Cell 1 0) (side.Cell 0 0) (pos 0)) ∷ []
    )))

-- Fact 1 is the key of the first table. The rows are 0 and 1; facts 4 to 6 are the parts of the sentence, and fact 8 is
-- what the key says of the two rows. Each of its five parts is fact 9 of a branch: they are one row, the one or the
-- other has a NULL, or the one value is less than the other. The steps are right where the first branch is closed by
-- its fact 9.
abbrev pub refuted_by_key : ℕ → List Step
refuted_by_key same =
    step.Ex 0 ∷ step.Ex 2 ∷ step.And 3
    ∷ step.All 1 0 ∷ step.All 7 1 ∷ step.Or 8
    ∷ step.Same 4 (record { fact = same; back = false } ∷ [])
    ∷ step.Null 9 5 []
    ∷ step.Null 9 5 []
    ∷ step.Sum (edge.Fact 9 ∷ edge.Fact 6 ∷ [])
    ∷ step.Sum (edge.Fact 9 ∷ edge.Fact 5 ∷ []) ∷ []

-- ---- texts

-- a table of one VARCHAR column
abbrev pub texts : List Table
texts = record {
  name = [];
  columns = record { name = []; domain = Text 5; not_null = false } ∷ [];
  keys = [];
  checks = [];
  foreign = [];
} ∷ []

-- in some row the column is the one text and the other, each of one character
abbrev pub is_both : ℕ → ℕ → Formula
is_both one other =
    f.Exists 0 (f.And (
    f.Atom (atom.TextEq (side.Cell 0 0) (side.Text (one ∷ [])))
    ∷ f.Atom (atom.TextEq (side.Cell 0 0) (side.Text (other ∷ []))) ∷ []
    ))

-- from the one text to the column and on to the other
abbrev pub refuted_by_texts : List Step
refuted_by_texts = step.Ex 0 ∷ step.And 1 ∷ step.Text None (text.FactBack 2 ∷ text.Fact 3 ∷ []) ∷ []

-- ---- sentences

-- the number in this column of the outermost row is at most this
abbrev pub at_most : ℕ → ℤ → Formula
at_most column most = f.Atom (atom.Le (side.Cell 0 column) side.Zero most)

-- a table of a SMALLINT column and a VARCHAR column
abbrev pub mixed : List Table
mixed = record {
  name = [];
  columns =
      record { name = []; domain = Number (neg_ℤ (pos 32768)) (pos 32767) Whole; not_null = false }
      ∷ record { name = []; domain = Text 9; not_null = false } ∷ [];
  keys = [];
  checks = [];
  foreign = [];
} ∷ []

-- ---- counter sentences

-- three entries, of three tables
abbrev pub middle_entries : List Entry
middle_entries =
    record { table = 0; name = []; span = nowhere }
    ∷ record { table = 1; name = []; span = nowhere }
    ∷ record { table = 2; name = []; span = nowhere } ∷ []

-- `SELECT its column FROM the first table, the second table, the third table`
abbrev pub middle : Query
middle = query None written (roll-Block (record { entries = middle_entries; cond = c.True; span = nowhere }))
