-- What a question is judged by: its counter sentence, as sentence 0, and the axioms of the schema. Where the tables of whose
-- rows these ask have an order, they have row terms, a ground list and a frame.
use Rattle.std.specs.Prelude.{ℕ, List, ◌∷◌, map}
use Rattle.lint_core.specs.declared.database.Value.{Value}
use Rattle.lint_core.specs.declared.query.Query.{Query}
use Rattle.lint_core.specs.declared.query.Question.{Question}
use Rattle.lint_core.specs.declared.schema.Table.{Table}
use Rattle.sort_formula.specs.declared.formula.Formula.{Formula}
use Rattle.sort_formula.specs.Axioms.{Axiom, axioms}
use Rattle.sort_formula.specs.Counters.{counter_sentence}
use Rattle.sorted_skolem.specs.declared.term.RowTerm.{RowTerm}
use Rattle.sorted_skolem.specs.Preorder.{outlines_of}
use Rattle.sorted_skolem.specs.Terms.{row_terms}
use Rattle.ground_theory.specs.declared.literal.Clause.{Clause}
use Rattle.ground_theory.specs.declared.literal.Frame.{Frame}
use Rattle.instantiate.specs.Ground.{clauses_of, frame_of}

-- for E3 with this value
abbrev pub sentences_for : List Table → Query → Question → Value → List Formula
sentences_for schema query question given = counter_sentence schema query question given ∷ map (λ (a : Axiom). a.sentence) (axioms schema)

-- the rows that sentences may need, by an order of their tables
abbrev pub rows_for : List Formula → List ℕ → List RowTerm
rows_for sentences order = row_terms (outlines_of sentences) order

abbrev pub clauses_for : List Formula → List ℕ → List Clause
clauses_for sentences order = clauses_of (outlines_of sentences) order (rows_for sentences order)

abbrev pub frame_for : List Table → List Formula → List ℕ → Frame
frame_for schema sentences order = frame_of schema (rows_for sentences order)
