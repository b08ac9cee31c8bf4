-- Where a question stands in the query file: E9 at its subquery, from ( to ); E1 at the query; E2 at the word DISTINCT; E3 at the item, and E4
-- at the later of the two; E5 at the entry, and E8 at the later of the two; E6, E7 and E10 at the predicate. A question that is not asked of the
-- query may stand nowhere.
use Rattle.std.specs.Prelude.{ℕ, List, Option, Some, map, option_map, slice_get}
use Rattle.lint_base.specs.declared.place.Span.{Span}
use Rattle.lint_core.specs.declared.condition.Entry.{Entry}
use Rattle.lint_core.specs.declared.query.Item.{Item}
use Rattle.lint_core.specs.declared.query.Query.{Query}
use Rattle.lint_core.specs.declared.query.Question.{Question}
use Rattle.lint_core.specs.declared.query.Question.TheVariants.{OneRow, Empty, NeedlessDistinct, Constant, Duplicate, NeedlessJoin, Implied, Impossible, SameRow, NullInNotIn}
use Rattle.lint_core.specs.Asked.{main_condition, main_entries, scalars_of, not_ins_of}
use Rattle.lint_core.specs.Predicates.{predicates}
use Rattle.lint_core.specs.Subqueries.{Subquery}

abbrev pub item_place : Query → ℕ → Option Span
item_place query item = option_map (λ (i : Item). i.span) (slice_get query.items item)

abbrev pub entry_place : Query → ℕ → Option Span
entry_place query entry = option_map (λ (e : Entry). e.span) (slice_get (main_entries query) entry)

-- of scalar subqueries their own place, of NOT IN subqueries that of the predicate
abbrev pub subquery_places : List Subquery → List Span
subquery_places subqueries = map (λ (s : Subquery). s.place) subqueries

abbrev pub predicate_place : Query → ℕ → Option Span
predicate_place query predicate = slice_get (predicates (main_condition query)) predicate

abbrev pub question_place : Query → Question → Option Span
question_place query (OneRow sub) = slice_get (subquery_places (scalars_of query)) sub
question_place query Empty = Some query.block.span
question_place query NeedlessDistinct = query.distinct
question_place query (Constant item) = item_place query item
question_place query (Duplicate item other) = item_place query other
question_place query (NeedlessJoin entry) = entry_place query entry
question_place query (Implied predicate) = predicate_place query predicate
question_place query (Impossible predicate) = predicate_place query predicate
question_place query (SameRow entry other) = entry_place query other
question_place query (NullInNotIn sub) = slice_get (subquery_places (not_ins_of query)) sub
