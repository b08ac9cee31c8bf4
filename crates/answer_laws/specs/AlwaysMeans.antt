-- What it means that a question of a query holds always: said of the query's answer, where the question asks of it, and
-- else of the bindings of its FROM entries or of those of a subquery. A query has no answer in a database in which
-- a scalar subquery of it gives two rows, of which E9 asks; of such a database only E8, E9 and E10 say something.
use Rattle.std.specs.Prelude.{ℕ, true, false, ◌≡◌, List, [], Some, slice_get}
use Rattle.std.specs.List.{list_all}
use Rattle.std.specs.Prelude.{Ok}
use Rattle.lint_core.specs.declared.condition.Cond.TheVariants as cond
use Rattle.lint_core.specs.declared.database.Binding.{Binding}
use Rattle.lint_core.specs.declared.database.Database.{Database}
use Rattle.lint_core.specs.declared.database.Value.{Value}
use Rattle.lint_core.specs.declared.query.Query.{Query}
use Rattle.lint_core.specs.declared.query.Question.{Question}
use Rattle.lint_core.specs.declared.query.Question.TheVariants.{OneRow, Empty, NeedlessDistinct, Constant, Duplicate, NeedlessJoin, Implied, Impossible, SameRow, NullInNotIn}
use Rattle.lint_core.specs.declared.schema.Table.{Table}
use Rattle.lint_core.specs.Asked.{scalars_of, not_ins_of}
use Rattle.lint_core.specs.Comparison.{is_null, are_not_distinct}
use Rattle.lint_core.specs.Condition.{is_true_at, term_value}
use Rattle.lint_core.specs.Meets.{meets}
use Rattle.lint_core.specs.Points.{is_binding, is_same_row}
use Rattle.lint_core.specs.Question.{where_is_true}
use Rattle.lint_core.specs.Forms.{is_main_binding}
use Rattle.lint_core.specs.QueryAnswer.{answer}
use Rattle.lint_core.specs.Subqueries.{Subquery}
use Rattle.question_truths.specs.AtMostOne.{GivesAtMostOneRow}
use Rattle.answer_laws.specs.Answers.{AreOneBag, AreTrueTogether, value_in, without_distinct, with_predicate}
use Rattle.answer_laws.specs.FindsOneRow.{FindARow, FindNoTwo}

-- the query has an answer, which is this bag of rows
abbrev pub HasBag : Database → Query → List (List Value) → Type 0
HasBag db query rows = (all : List (List Value)) × (answer db query ≡ Ok all) × AreOneBag rows all

-- WHERE is true at the same bindings of the two queries, and the other has this answer too
abbrev pub AreAlike : Database → Query → Query → List (List Value) → Type 0
AreAlike db query other rows = AreTrueTogether db query other × (answer db other ≡ Ok rows)

-- wherever WHERE is true, the two entries have one row
abbrev pub AreOneRow : Database → Query → ℕ → ℕ → Type 0
AreOneRow db query entry other =
    (binding : Binding) → is_main_binding db query binding ≡ true → where_is_true db query binding.levels ≡ true
    → is_same_row binding.levels entry other ≡ true

-- wherever its condition is true, what the subquery selects is not NULL
abbrev pub SelectsNoNull : Database → Subquery → Type 0
SelectsNoNull db sub =
    (levels : List (List ℕ)) → is_binding db sub.tables levels ≡ true → is_true_at db sub.cond sub.tables levels ≡ true
    → is_null (term_value db sub.tables levels sub.item) ≡ false

module _ (schema : List Table) (query : Query) where
  -- in every database that meets the schema
  abbrev pub InEachDatabase : (Database → Type 0) → Type 0
  InEachDatabase So = (db : Database) → meets schema db ≡ true → So db

  -- and of the rows of the answer, in every one of them in which the query has an answer
  abbrev pub OfEachAnswer : (Database → List (List Value) → Type 0) → Type 0
  OfEachAnswer So = InEachDatabase (λ db. (rows : List (List Value)) → answer db query ≡ Ok rows → So db rows)

  -- the value is that of the constant column
  abbrev pub AlwaysMeans : Question → Value → Type 0
  -- E9: the subquery gives at most one row, whatever the rows around it
  AlwaysMeans (OneRow number) value = (sub : Subquery) → slice_get (scalars_of query) number ≡ Some sub → InEachDatabase (λ db. GivesAtMostOneRow db sub)
  -- E1: the answer is empty
  AlwaysMeans Empty value = OfEachAnswer (λ db rows. rows ≡ [])
  -- E2: without DISTINCT the answer is the same bag
  AlwaysMeans NeedlessDistinct value = OfEachAnswer (λ db rows. HasBag db (without_distinct query) rows)
  -- E3: each row has this value there: the same number or text, or NULL and NULL
  AlwaysMeans (Constant item) value = OfEachAnswer (λ db rows. list_all (λ row. are_not_distinct (value_in row item) value) rows ≡ true)
  -- E4: each row has one value at both places
  AlwaysMeans (Duplicate item other) value = OfEachAnswer (λ db rows. list_all (λ row. are_not_distinct (value_in row item) (value_in row other)) rows ≡ true)
  -- E5: the rows of the other entries find exactly one row of this one
  AlwaysMeans (NeedlessJoin entry) value = OfEachAnswer (λ db rows. FindARow db query entry × FindNoTwo db query entry)
  -- E6: with TRUE in place of the predicate WHERE is true where it was, and the answer is the same
  AlwaysMeans (Implied predicate) value = OfEachAnswer (λ db rows. AreAlike db query (with_predicate predicate cond.True query) rows)
  -- E7: alike with FALSE in its place
  AlwaysMeans (Impossible predicate) value = OfEachAnswer (λ db rows. AreAlike db query (with_predicate predicate cond.False query) rows)
  -- E8: the two entries have one row
  AlwaysMeans (SameRow entry other) value = InEachDatabase (λ db. AreOneRow db query entry other)
  -- E10: the subquery selects no NULL
  AlwaysMeans (NullInNotIn number) value = (sub : Subquery) → slice_get (not_ins_of query) number ≡ Some sub → InEachDatabase (λ db. SelectsNoNull db sub)
