-- When what a run says of the queries of a file is right: there is one entry for each piece of the file, in order,
-- which tells of that piece alone.
use Rattle.std.specs.Prelude.{ℕ, ◌+◌, true, ◌≡◌, List, [], ◌∷◌, map}
use Rattle.command_words.specs.Wanted.{Asked, judges, checks}
use Rattle.lint_core.specs.declared.schema.Table.{Table}
use Rattle.lint_core.specs.declared.query.Query.{Query}
use Rattle.lint_core.specs.declared.query.Question.{Question}
use Rattle.lint_core.specs.declared.run.Answer.{Answer}
use Rattle.lint_core.specs.declared.run.QueryResult.{QueryResult}
use Rattle.lint_core.specs.declared.run.QueryResult.TheVariants.{Refused, Answered}
use Rattle.lint_core.specs.declared.run.QueryRun.{QueryRun}
use Rattle.lint_core.specs.Asked.{questions}
use Rattle.lint_core.specs.Fits.{query_fits}
use Rattle.lint_engine.specs.AskingAll.{AreRightAnswers}
use Rattle.sql_lex.specs.Pieces.{pieces}
use Rattle.sql_reading.specs.TextReading.{ReadsQuery, RefusesQuery}

-- A run that judges has a right answer to each question; one that checks certificates answers none.
abbrev pub AreAnswers : Asked → List Table → ℕ → Query → List Answer → Type 0
AreAnswers (judges budget form) schema number query answers = AreRightAnswers schema query number budget answers
AreAnswers (checks certs) schema number query answers = answers ≡ []

module _ (asked : Asked) (schema : List Table) where
  -- all questions of a query, and what is answered of them
  pub record IsAnswered (number : ℕ) (query : Query) (list : List Question) (answers : List Answer) : Type 0 where
    pub fits : query_fits schema query ≡ true
    pub questions_are : list ≡ questions schema query
    pub answers_are : AreAnswers asked schema number query answers

  -- the refusal of its reading, or its query and what is answered of it
  abbrev pub IsRightResult : ℕ → List ℕ → QueryRun → QueryResult → Type 0
  IsRightResult number text run (Refused refusal) = RefusesQuery schema text run.span refusal
  IsRightResult number text run (Answered query list answers) = ReadsQuery schema text run.span query × IsAnswered number query list answers

  -- the entries are right, numbered from this number
  abbrev pub AreRightFrom : ℕ → List ℕ → List QueryRun → Type 0
  AreRightFrom number text [] = Unit {0}
  AreRightFrom number text (q ∷ qs) = IsRightResult number text q q.result × AreRightFrom (number + 1) text qs

  pub record AreRightQueries (text : List ℕ) (queries : List QueryRun) : Type 0 where
    pub each_piece : map (λ (q : QueryRun). q.span) queries ≡ pieces text
    pub right : AreRightFrom 1 text queries
