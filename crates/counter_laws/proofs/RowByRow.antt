-- Row by row: the body of the counter sentence holds at the leading rows exactly where the points made of them refute
-- the question loosely. Of all questions but the needless join.
use Rattle.std.proofs.Common.{◌≡◌, refl, ℕ, zero, suc, true, false, ◌&&◌, List, [], ◌∷◌, length, nat_lt, arith}
use Rattle.std.proofs.lemmas.Bool.Decides.{nat_tests}
use Rattle.std.specs.Prelude.{Some, None, slice_get}
use Rattle.lint_base.proofs.Lists.{below_true, both_left, both_right}
use Rattle.lint_core.specs.declared.database.Database.{Database}
use Rattle.lint_core.specs.declared.database.Value.{Value}
use Rattle.lint_core.specs.declared.query.Query.{Query}
use Rattle.lint_core.specs.declared.query.Question.{Question}
use Rattle.lint_core.specs.declared.query.Question.TheVariants.{OneRow, Empty, NeedlessDistinct, Constant, Duplicate, NeedlessJoin, Implied, Impossible, SameRow, NullInNotIn}
use Rattle.lint_core.specs.declared.schema.Table.{Table}
use Rattle.lint_core.specs.Asked.{is_asked, scalars_of, not_ins_of}
use Rattle.lint_core.specs.Fits.{cond_fits, term_fits, is_plain, query_fits}
use Rattle.lint_core.specs.Meets.{is_of_domains}
use Rattle.lint_core.specs.Points.{are_rows}
use Rattle.lint_core.specs.Subqueries.{Subquery}
use Rattle.sort_formula.specs.CounterPoints.{points_of}
use Rattle.sort_formula.specs.Counters.{counter}
use Rattle.sort_formula.specs.Holds.{holds}
use Rattle.sort_formula.specs.Loose.{refutes_loosely}
use Rattle.question_truths.specs.SubqueryFits.{subquery_fits, tables_exist}
use Rattle.counter_laws.specs.Joins.{is_join}
use Rattle.counter_laws.specs.LeadingRows.{leading_rows}
use Rattle.counter_laws.proofs.Distinct.{distinct_says_so}
use Rattle.counter_laws.proofs.NotIns.{null_in_says}
use Rattle.counter_laws.proofs.Scalars.{one_row_says}
use Rattle.counter_laws.proofs.Single.{empty_says, constant_says, duplicate_says, same_row_says, implied_says, impossible_says}
use Rattle.counter_laws.proofs.Twice.{OneMeaning, MoreFollow}

found : {A : Type 0} (xs : List A) (i : ℕ) → nat_lt i (length xs) ≡ true → (x : A) × (slice_get xs i ≡ Some x)
found [] i low = absurd (omega (arith, below_true i 0 low))
found (x ∷ xs) zero low = (x, refl)
found (x ∷ xs) (suc i) low = found xs i (grind (arith, nat_tests))

module _ (schema : List Table) (s : Subquery) (fit : subquery_fits schema s ≡ true) where
  first_parts : (tables_exist schema s.tables && term_fits schema s.tables s.item && is_plain s.item) ≡ true
  first_parts = both_left (tables_exist schema s.tables && term_fits schema s.tables s.item && is_plain s.item) (cond_fits schema s.tables s.cond) fit

  pub its_condition : cond_fits schema s.tables s.cond ≡ true
  its_condition = both_right (tables_exist schema s.tables && term_fits schema s.tables s.item && is_plain s.item) (cond_fits schema s.tables s.cond) fit

  pub its_item : term_fits schema s.tables s.item ≡ true
  its_item = both_right (tables_exist schema s.tables) (term_fits schema s.tables s.item) (both_left (tables_exist schema s.tables && term_fits schema s.tables s.item) (is_plain s.item) first_parts)

module _ (schema : List Table) (db : Database) (domains : is_of_domains schema db ≡ true) (alike : OneMeaning schema db) (follow : MoreFollow db)
    (query : Query) (fits : query_fits schema query ≡ true)
    (scalars : (number : ℕ) (s : Subquery) → slice_get (scalars_of query) number ≡ Some s → subquery_fits schema s ≡ true)
    (not_ins : (number : ℕ) (s : Subquery) → slice_get (not_ins_of query) number ≡ Some s → subquery_fits schema s ≡ true) where
  pub says : (question : Question) → is_asked schema query question ≡ true → is_join question ≡ false → (given : Value) (places : List ℕ) →
      are_rows db (counter schema query question given).lead places ≡ true →
      holds db (counter schema query question given).body (leading_rows (counter schema query question given).lead places)
      ≡ refutes_loosely schema db query question given (points_of query question places None)
  says (OneRow sub) asked unjoined given places lead =
      let s = found (scalars_of query) sub asked in
      one_row_says schema db alike follow query given sub s.0 s.1 (its_condition schema s.0 (scalars sub s.0 s.1)) places lead
  says Empty asked unjoined given places lead = empty_says schema db domains query fits places lead given
  says NeedlessDistinct asked unjoined given places lead = distinct_says_so schema db domains alike follow query fits places lead given
  says (Constant item) asked unjoined given places lead = constant_says schema db domains query fits places lead item given asked
  says (Duplicate item other) asked unjoined given places lead = duplicate_says schema db domains query fits places lead item other given asked
  says (NeedlessJoin entry) asked unjoined given places lead = cc
  says (Implied predicate) asked unjoined given places lead = implied_says schema db domains query fits places lead predicate given
  says (Impossible predicate) asked unjoined given places lead = impossible_says schema db domains query fits places lead predicate given
  says (SameRow entry other) asked unjoined given places lead = same_row_says schema db domains query fits places lead entry other given asked
  says (NullInNotIn sub) asked unjoined given places lead =
      let s = found (not_ins_of query) sub asked in
      null_in_says schema db domains query given sub s.0 s.1 (its_item schema s.0 (not_ins sub s.0 s.1)) places lead
