-- Texts that are known by hand: of runs, of the steps of every kind, of every verdict, of every question, and of checks.
use Rattle.std.specs.Prelude.{ℕ, pos, true, false, ◌≡◌, List, [], ◌∷◌, Some, None, codes, encode_utf8_all}
use Rattle.lint_base.specs.declared.place.Span.{Span}
use Rattle.lint_base.specs.declared.place.Fault.TheVariants.{UnknownColumn, Long}
use Rattle.lint_tables.specs.declared.op.Op.TheVariants.{Eq}
use Rattle.lint_core.specs.declared.schema.Table.{Table}
use Rattle.lint_core.specs.declared.certificate.SameEdge.{SameEdge}
use Rattle.lint_core.specs.declared.certificate.Step.{Step}
use Rattle.lint_core.specs.declared.certificate.Step.TheVariants as step
use Rattle.lint_core.specs.declared.certificate.SumEdge.TheVariants as edge
use Rattle.lint_core.specs.declared.certificate.TextEdge.TheVariants as link
use Rattle.lint_core.specs.declared.certificate.Cert.{Cert}
use Rattle.lint_core.specs.declared.database.Value.TheVariants as value
use Rattle.lint_core.specs.declared.database.Binding.{Binding}
use Rattle.lint_core.specs.declared.database.KeyName.{KeyName}
use Rattle.lint_core.specs.declared.database.Points.{Points}
use Rattle.lint_core.specs.declared.database.Points.TheVariants.{One}
use Rattle.lint_core.specs.declared.database.Counter.{Counter}
use Rattle.lint_core.specs.declared.condition.Block.{Block, roll-Block}
use Rattle.lint_core.specs.declared.condition.Cond.{Cond}
use Rattle.lint_core.specs.declared.condition.Cond.TheOpen.{Block-F}
use Rattle.lint_core.specs.declared.condition.Cond.TheVariants as c
use Rattle.lint_core.specs.declared.condition.Entry.{Entry}
use Rattle.lint_core.specs.declared.condition.Term.{Term}
use Rattle.lint_core.specs.declared.condition.Term.TheVariants as term
use Rattle.lint_core.specs.declared.query.Item.{Item}
use Rattle.lint_core.specs.declared.query.Query.{Query}
use Rattle.lint_core.specs.declared.query.Question.{Question}
use Rattle.lint_core.specs.declared.query.Question.TheVariants.{Empty}
use Rattle.lint_core.specs.declared.run.Answer.{Answer}
use Rattle.lint_core.specs.declared.run.Answer.TheVariants.{Always, NotAlways}
use Rattle.lint_core.specs.declared.run.Checked.TheVariants as checked
use Rattle.lint_core.specs.declared.run.CheckRun.{CheckRun}
use Rattle.lint_core.specs.declared.run.QueryResult.TheVariants.{Refused, Answered}
use Rattle.lint_core.specs.declared.run.Run.{Run}
use Rattle.insert_lines.specs.Examples.{some_rows}
use Rattle.lint_report.specs.QuestionPlaces.{question_place}
use Rattle.lint_report.specs.StepText.{steps_text}
use Rattle.lint_report.specs.Text.{place_text, asked_text, report_text}

abbrev pub from_to : ℕ → ℕ → Span
from_to from to = record { from = from; to = to }

-- two entries: a refused query, and one of which nothing is asked
abbrev pub two_queries : List Table → Query → Run
two_queries schema query =
    record {
      schema = schema;
      queries = record { span = from_to 0 20; result = Refused (record { fault = UnknownColumn; span = from_to 7 11; count = 0 }) }
          ∷ record { span = from_to 22 57; result = Answered query [] [] }
          ∷ [];
      checks = [];
    }

-- the one query of a run, answered
abbrev pub answered : List Table → Query → Answer → Run
answered schema query answer =
    record { schema = schema; queries = record { span = query.block.span; result = Answered query (Empty ∷ []) (answer ∷ []) } ∷ []; checks = [] }

-- a > 5 AND a < 6
abbrev pub contradiction : Cert
contradiction =
    record {
      query = 1;
      question = 1;
      value = value.Null;
      steps = step.Ex 0 ∷ step.And 1 ∷ step.Sum (edge.Fact 2 ∷ edge.Fact 3 ∷ []) ∷ [];
    }

-- a part of a path, taken forth and back
abbrev pub forth : ℕ → SameEdge
forth fact = record { fact = fact; back = false }

abbrev pub back : ℕ → SameEdge
back fact = record { fact = fact; back = true }

-- each kind of step, with each kind of edge
abbrev pub every_step : List Step
every_step =
    step.And 1 ∷ step.Or 2 ∷ step.Ex 3 ∷ step.All 4 0
    ∷ step.Sum (edge.Fact 5 ∷ edge.Low 0 1 ∷ edge.High 0 2 ∷ edge.Same 6 3 ∷ edge.Back 7 4 ∷ [])
    ∷ step.Text None (link.Fact 8 ∷ link.FactBack 9 ∷ link.Same 10 5 ∷ link.Back 11 6 ∷ [])
    ∷ step.Text (Some 12) []
    ∷ step.Null 13 14 (forth 15 ∷ back 16 ∷ [])
    ∷ step.Same 17 []
    ∷ []

-- one row, 6 and NULL
abbrev pub six : Counter
six =
    record {
      database = record { tables = (record { values = value.Int (pos 6) ∷ value.Null ∷ [] } ∷ []) ∷ [] };
      points = One (record { levels = (0 ∷ []) ∷ [] });
    }

abbrev pub AlwaysText : Type 0
AlwaysText =
    (schema : List Table) (query : Query) → query.block.span ≡ from_to 0 37
    → report_text (answered schema query (Always contradiction))
    ≡ codes "query 1 at 0..37\n  1 E1 at 0..37: always (finding)\n    proof [[\"ex\",0],[\"and\",1],[\"sum\",[[0,2],[0,3]]]]\n"

abbrev pub NotAlwaysText : Type 0
NotAlwaysText =
    (table : Table) (query : Query) → encode_utf8_all table.name ≡ codes "T" → query.block.span ≡ from_to 0 37
    → report_text (answered (table ∷ []) query (NotAlways (six ∷ [])))
    ≡ codes "query 1 at 0..37\n  1 E1 at 0..37: not always\n    database\n    INSERT INTO T VALUES (6, NULL);\n    at 1\n"

abbrev pub RefusedText : Type 0
RefusedText =
    (schema : List Table) (query : Query)
    → report_text (two_queries schema query) ≡ codes "query 1 at 0..20\n  refused 22 UnknownColumn at 7..11\nquery 2 at 22..57\n"

abbrev pub LongText : Type 0
LongText =
    (schema : List Table)
    → report_text (record { schema = schema; queries = record { span = from_to 3 9000; result = Refused (record { fault = Long; span = from_to 8998 8999; count = 4097 }) } ∷ []; checks = [] })
    ≡ codes "query 1 at 3..9000\n  refused 11 Long at 8998..8999 count 4097\n"

abbrev pub StepsText : Type 0
StepsText =
    steps_text every_step
    ≡ codes "[[\"and\",1],[\"or\",2],[\"ex\",3],[\"all\",4,0],[\"sum\",[[0,5],[1,0,1],[2,0,2],[3,6,3],[4,7,4]]],[\"text\",null,[[0,8],[1,9],[2,10,5],[3,11,6]]],[\"text\",12,[]],[\"null\",13,14,[[0,15],[1,16]]],[\"same\",17,[]]]"

-- ---- verdicts, under tables that are EMP, dept, which is no plain word, and SELECT, which is reserved

-- the value of a constant column
abbrev pub five : Cert
five = record { query = 1; question = 2; value = value.Int (pos 5); steps = [] }

-- row 1 of one level, and rows 2 and 3 of the next
abbrev pub inner_rows : Binding
inner_rows = record { levels = (0 ∷ []) ∷ (1 ∷ 2 ∷ []) ∷ [] }

-- two rows of EMP and one of SELECT
abbrev pub counter_at : Points → Counter
counter_at points = record { database = some_rows; points = points }

-- the first foreign key of dept
abbrev pub dept_key : KeyName
dept_key = record { table = 1; index = 0 }

-- a question that stands at 7..11
abbrev pub AskedText : Question → List ℕ → Type 0
AskedText question text = (query : Query) → place_text (question_place query question) ≡ codes "7..11" → asked_text query 3 question ≡ text

-- a certificate that is accepted, one whose third step is wrong, and one that waits for another
abbrev pub three_checks : List CheckRun
three_checks =
    record { query = 1; question = 2; checked = checked.Accepted }
    ∷ record { query = 1; question = 5; checked = checked.Refused 3 }
    ∷ record { query = 12; question = 7; checked = checked.Needs 6 }
    ∷ []

-- ---- places

abbrev pub main_column : Term
main_column = term.Cell 0 0 0 (pos 0)

abbrev pub inner_column : Term
inner_column = term.Cell 1 0 0 (pos 0)

abbrev pub item_at : Span → Item
item_at span = record { term = main_column; star = false; span = span }

abbrev pub entry_at : Span → Entry
entry_at span = record { table = 0; name = []; span = span }

-- blocks, taken apart
abbrev pub one_row : Block-F Cond Block
one_row = record { entries = entry_at (from_to 60 61) ∷ []; cond = c.True; span = from_to 45 62 }

abbrev pub null_rows : Block-F Cond Block
null_rows = record { entries = entry_at (from_to 91 92) ∷ []; cond = c.IsNull inner_column false (from_to 99 108); span = from_to 76 109 }

abbrev pub two_conds : List Cond
two_conds =
    c.Scalar Eq main_column (roll-Block one_row) inner_column (from_to 41 62)
    ∷ c.In main_column (roll-Block null_rows) inner_column true (from_to 67 109)
    ∷ []

abbrev pub two_entries : Block-F Cond Block
two_entries = record { entries = entry_at (from_to 26 29) ∷ entry_at (from_to 31 34) ∷ []; cond = c.And two_conds; span = from_to 0 109 }

-- SELECT DISTINCT A, A FROM T X, T Y WHERE A = (SELECT A FROM T) AND A NOT IN (SELECT A FROM T WHERE A IS NULL)
abbrev pub placed : Query
placed = record {
  distinct = Some (from_to 7 15);
  items = item_at (from_to 16 17) ∷ item_at (from_to 19 20) ∷ [];
  block = roll-Block two_entries;
  order = [];
}
