-- The report of a run, and the lines of a check. Every line ends with byte 10, numbers are decimal, and names and values stand as in a query.
-- What an answer names and is not there has no text.
use Rattle.std.specs.Prelude.{ℕ, ◌+◌, List, [], ◌∷◌, ◌++◌, Option, Some, None, if◌then◌else◌, slice_get, codes}
use Rattle.std.specs.Fmt.{decimal}
use Rattle.std.specs.Option.{option_map_or}
use Rattle.lint_base.specs.declared.place.Span.{Span}
use Rattle.lint_core.specs.declared.certificate.Step.{Step}
use Rattle.lint_core.specs.declared.schema.Table.{Table}
use Rattle.lint_core.specs.declared.database.Value.{Value}
use Rattle.lint_core.specs.declared.database.KeyName.{KeyName}
use Rattle.lint_core.specs.declared.database.Points.{Points}
use Rattle.lint_core.specs.declared.database.Points.TheVariants.{One, Two, Without}
use Rattle.lint_core.specs.declared.database.Counter.{Counter}
use Rattle.lint_core.specs.declared.query.Question.{Question}
use Rattle.lint_core.specs.declared.query.Question.TheVariants.{OneRow, Empty, NeedlessDistinct, Constant, Duplicate, NeedlessJoin, Implied, Impossible, SameRow, NullInNotIn}
use Rattle.lint_core.specs.declared.query.Query.{Query}
use Rattle.lint_core.specs.declared.run.Answer.{Answer}
use Rattle.lint_core.specs.declared.run.Answer.TheVariants.{Always, NotAlways, Moot, Blocked, CyclicKeys, CyclicNesting, Large, Spent}
use Rattle.lint_core.specs.declared.run.Checked.{Checked}
use Rattle.lint_core.specs.declared.run.Checked.TheVariants as checked
use Rattle.lint_core.specs.declared.run.CheckRun.{CheckRun}
use Rattle.lint_core.specs.declared.run.QueryResult.{QueryResult}
use Rattle.lint_core.specs.declared.run.QueryResult.TheVariants.{Refused, Answered}
use Rattle.lint_core.specs.declared.run.QueryRun.{QueryRun}
use Rattle.lint_core.specs.declared.run.Run.{Run}
use Rattle.insert_lines.specs.InsertText.{texts, joined, name_text, value_text, insert_lines}
use Rattle.lint_report.specs.Finding.{is_finding}
use Rattle.lint_report.specs.QuestionPlaces.{question_place}
use Rattle.lint_report.specs.RefusalText.{span_text, refusal_text}
use Rattle.lint_report.specs.StepText.{steps_text}

-- ---- points

-- row places, from 1; a list of none is a dash
unfoldable pub level_text : List ℕ → List ℕ
level_text [] = codes "-"
level_text (place ∷ places) = joined (codes ",") (λ p. decimal (p + 1)) (place ∷ places)

unfoldable pub places_text : List (List ℕ) → List ℕ
places_text [] = codes "-"
places_text (level ∷ levels) = joined (codes "/") level_text (level ∷ levels)

unfoldable pub points_text : Points → List ℕ
points_text (One binding) = places_text binding.levels
points_text (Two one two) = places_text one.levels ++ codes " and " ++ places_text two.levels
points_text (Without binding) = places_text binding.levels ++ codes " with no row"

unfoldable pub at_line : Points → List ℕ
at_line points = codes "    at " ++ points_text points ++ codes "\n"

-- a database as INSERT lines, and where the question fails in it
unfoldable pub counter_text : List Table → Counter → List ℕ
counter_text schema counter = codes "    database\n" ++ insert_lines (codes "    ") schema counter.database ++ at_line counter.points

-- ---- answers

unfoldable pub table_text : List Table → ℕ → List ℕ
table_text schema table = option_map_or (λ (t : Table). name_text t.name) (slice_get schema table) []

unfoldable pub tables_text : List Table → List ℕ → List ℕ
tables_text schema tables = joined (codes ", ") (table_text schema) tables

-- a foreign key by its table and its number there, from 1
unfoldable pub key_text : List Table → KeyName → List ℕ
key_text schema key = codes " key " ++ table_text schema key.table ++ codes " " ++ decimal (key.index + 1)

-- the value of E3, which a certificate names
unfoldable pub constant_text : Question → Value → List ℕ
constant_text (Constant item) value = codes " " ++ value_text value
constant_text other value = []

unfoldable pub verdict_text : List Table → Question → Answer → List ℕ
verdict_text schema question (Always cert) = codes "always" ++ constant_text question cert.value
verdict_text schema question (NotAlways counters) = codes "not always"
verdict_text schema question Moot = codes "moot"
verdict_text schema question (Blocked by) = codes "blocked by " ++ decimal by
verdict_text schema question (CyclicKeys cycle counter key) = codes "cyclic keys " ++ tables_text schema cycle ++ key_text schema key
verdict_text schema question (CyclicNesting cycle) = codes "cyclic nesting " ++ tables_text schema cycle
verdict_text schema question (Large rows nodes) = codes "large rows " ++ decimal rows ++ codes " nodes " ++ decimal nodes
verdict_text schema question (Spent tried) = codes "spent " ++ decimal tried

abbrev pub finding_text : Question → Answer → List ℕ
finding_text question answer = if is_finding question answer then codes " (finding)" else []

unfoldable pub proof_line : List Step → List ℕ
proof_line steps = codes "    proof " ++ steps_text steps ++ codes "\n"

-- what shows the verdict: a proof, or databases
unfoldable pub shown_text : List Table → Answer → List ℕ
shown_text schema (Always cert) = proof_line cert.steps
shown_text schema (NotAlways counters) = texts (counter_text schema) counters
shown_text schema (CyclicKeys cycle counter key) = counter_text schema counter
shown_text schema other = []

unfoldable pub answer_text : List Table → Question → Answer → List ℕ
answer_text schema question answer = verdict_text schema question answer ++ finding_text question answer ++ codes "\n" ++ shown_text schema answer

-- ---- questions

unfoldable pub code_text : Question → List ℕ
code_text (OneRow sub) = codes "E9"
code_text Empty = codes "E1"
code_text NeedlessDistinct = codes "E2"
code_text (Constant item) = codes "E3"
code_text (Duplicate item other) = codes "E4"
code_text (NeedlessJoin entry) = codes "E5"
code_text (Implied predicate) = codes "E6"
code_text (Impossible predicate) = codes "E7"
code_text (SameRow entry other) = codes "E8"
code_text (NullInNotIn sub) = codes "E10"

abbrev pub place_text : Option Span → List ℕ
place_text None = []
place_text (Some place) = span_text place

-- the number, the code and the place
unfoldable pub asked_text : Query → ℕ → Question → List ℕ
asked_text query number question =
    codes "  " ++ decimal number ++ codes " " ++ code_text question ++ codes " at " ++ place_text (question_place query question) ++ codes ": "

-- the questions with their answers, numbered from this number
abbrev pub answers_text : List Table → Query → ℕ → List Question → List Answer → List ℕ
answers_text schema query number [] answers = []
answers_text schema query number (question ∷ questions) [] = []
answers_text schema query number (question ∷ questions) (answer ∷ answers) =
    asked_text query number question ++ answer_text schema question answer ++ answers_text schema query (number + 1) questions answers

-- ---- queries

unfoldable pub result_text : List Table → QueryResult → List ℕ
result_text schema (Refused refusal) = codes "  refused " ++ refusal_text refusal ++ codes "\n"
result_text schema (Answered query questions answers) = answers_text schema query 1 questions answers

unfoldable pub query_line : ℕ → Span → List ℕ
query_line number span = codes "query " ++ decimal number ++ codes " at " ++ span_text span ++ codes "\n"

-- a query's part of the report, under its number in its file
unfoldable pub query_text : List Table → ℕ → QueryRun → List ℕ
query_text schema number query = query_line number query.span ++ result_text schema query.result

-- the queries' parts, numbered from this number
abbrev pub queries_text : List Table → ℕ → List QueryRun → List ℕ
queries_text schema number [] = []
queries_text schema number (query ∷ queries) = query_text schema number query ++ queries_text schema (number + 1) queries

abbrev pub report_text : Run → List ℕ
report_text run = queries_text run.schema 1 run.queries

-- ---- checks

unfoldable pub checked_text : Checked → List ℕ
checked_text checked.Accepted = codes "accepted"
checked_text (checked.Refused step) = codes "refused at step " ++ decimal step
checked_text (checked.Needs question) = codes "needs question " ++ decimal question

-- the certificate's place in its list, what it names, and what its check comes to
unfoldable pub check_line : ℕ → CheckRun → List ℕ
check_line number check =
    codes "cert " ++ decimal number ++ codes " query " ++ decimal check.query ++ codes " question " ++ decimal check.question ++ codes ": "
    ++ checked_text check.checked ++ codes "\n"

-- the lines of the checks, numbered from this number
abbrev pub check_lines : ℕ → List CheckRun → List ℕ
check_lines number [] = []
check_lines number (check ∷ checks) = check_line number check ++ check_lines (number + 1) checks

abbrev pub checks_text : List CheckRun → List ℕ
checks_text checks = check_lines 1 checks
