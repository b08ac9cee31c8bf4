-- The counter sentence holds exactly where some points refute the question loosely.
use Rattle.std.proofs.Common.{◌≡◌, ◌∙◌, refl, sym, ap, ℕ, Bool, true, false, ◌||◌, List, []}
use Rattle.std.specs.Prelude.{Option, Some, None, slice_get}
use Rattle.lint_base.proofs.Lists.{or_true}
use Rattle.lint_core.specs.declared.database.Database.{Database}
use Rattle.lint_core.specs.declared.database.Points.{Points}
use Rattle.lint_core.specs.declared.database.Value.{Value}
use Rattle.lint_core.specs.declared.query.Query.{Query}
use Rattle.lint_core.specs.declared.query.Question.{Question}
use Rattle.lint_core.specs.declared.query.Question.TheVariants.{OneRow, Empty, NeedlessDistinct, Constant, Duplicate, NeedlessJoin, Implied, Impossible, SameRow, NullInNotIn}
use Rattle.lint_core.specs.declared.schema.Table.{Table}
use Rattle.lint_core.specs.Asked.{is_asked, scalars_of, not_ins_of}
use Rattle.lint_core.specs.Fits.{query_fits}
use Rattle.lint_core.specs.Forms.{have_form}
use Rattle.lint_core.specs.Meets.{is_of_domains}
use Rattle.lint_core.specs.Points.{are_rows}
use Rattle.lint_core.specs.Question.{clause_by}
use Rattle.lint_core.specs.Subqueries.{Subquery}
use Rattle.sort_formula.specs.CounterPoints.{are_there, points_of}
use Rattle.sort_formula.specs.Counters.{counter, counter_sentence}
use Rattle.sort_formula.specs.Holds.{holds}
use Rattle.sort_formula.specs.Loose.{by_formula, refutes_loosely}
use Rattle.question_truths.specs.SubqueryFits.{subquery_fits}
use Rattle.counter_laws.specs.Joins.{is_join, no_row_body, two_rows_body}
use Rattle.counter_laws.specs.LeadingRows.{leading_rows}
use Rattle.counter_laws.proofs.Exists.{rows_from, rows_to}
use Rattle.counter_laws.proofs.JoinParts.{Divides, none_says, two_from, two_to, body_says}
use Rattle.counter_laws.proofs.Leading.{leading_is}
use Rattle.counter_laws.proofs.Loosely.{known_form}
use Rattle.counter_laws.proofs.PointsBack.{back, entry_low}
use Rattle.counter_laws.proofs.RowByRow.{says}
use Rattle.counter_laws.proofs.Twice.{OneMeaning, MoreFollow}

module _ (schema : List Table) (db : Database) (domains : is_of_domains schema db ≡ true) (alike : OneMeaning schema db) (follow : MoreFollow db) (divides : Divides schema db)
    (query : Query) (fits : query_fits schema query ≡ true)
    (scalars : (number : ℕ) (s : Subquery) → slice_get (scalars_of query) number ≡ Some s → subquery_fits schema s ≡ true)
    (not_ins : (number : ℕ) (s : Subquery) → slice_get (not_ins_of query) number ≡ Some s → subquery_fits schema s ≡ true) (given : Value) where
  abbrev Leads : Question → List ℕ → Type 0
  Leads question places = are_rows db (counter schema query question given).lead places ≡ true

  abbrev body_holds : Question → List ℕ → Bool
  body_holds question places = holds db (counter schema query question given).body (leading_rows (counter schema query question given).lead places)

  abbrev Refuting : Question → List ℕ → Type 0
  Refuting question places =
      (fitting : Option (ℕ × ℕ)) × (are_there query db question fitting ≡ true) × (refutes_loosely schema db query question given (points_of query question places fitting) ≡ true)

  -- ---- at leading rows

  plain_points : (question : Question) → is_asked schema query question ≡ true → is_join question ≡ false → (places : List ℕ) → Leads question places → body_holds question places ≡ true →
      refutes_loosely schema db query question given (points_of query question places None) ≡ true
  plain_points question asked unjoined places lead holding = sym (says schema db domains alike follow query fits scalars not_ins question asked unjoined given places lead) ∙ holding

  plain_rows : (question : Question) → is_asked schema query question ≡ true → is_join question ≡ false → (places : List ℕ) → Leads question places →
      refutes_loosely schema db query question given (points_of query question places None) ≡ true → body_holds question places ≡ true
  plain_rows question asked unjoined places lead refuted = says schema db domains alike follow query fits scalars not_ins question asked unjoined given places lead ∙ refuted

  module _ (entry : ℕ) (asked : is_asked schema query (NeedlessJoin entry) ≡ true) (places : List ℕ) (lead : Leads (NeedlessJoin entry) places) where
    abbrev none : Bool
    none = holds db (no_row_body schema query entry) (leading_rows (counter schema query (NeedlessJoin entry) given).lead places)

    abbrev two : Bool
    two = holds db (two_rows_body schema query entry) (leading_rows (counter schema query (NeedlessJoin entry) given).lead places)

    join_body : body_holds (NeedlessJoin entry) places ≡ (none || two)
    join_body = body_says schema db domains alike divides query fits entry (entry_low schema query entry asked) places lead given

    none_is : none ≡ refutes_loosely schema db query (NeedlessJoin entry) given (points_of query (NeedlessJoin entry) places None)
    none_is = none_says schema db domains alike divides query fits entry (entry_low schema query entry asked) places lead given

    either : (b : Bool) → none ≡ b → (b || two) ≡ true → Refuting (NeedlessJoin entry) places
    either true is holding = (None, refl, sym none_is ∙ is)
    either false is holding =
        let found = two_from schema db domains alike divides query fits entry (entry_low schema query entry asked) places lead given holding in
        (Some (found.0, found.1), found.2, found.3)

    join_points : body_holds (NeedlessJoin entry) places ≡ true → Refuting (NeedlessJoin entry) places
    join_points holding = either none refl (sym join_body ∙ holding)

    join_rows : (fitting : Option (ℕ × ℕ)) → are_there query db (NeedlessJoin entry) fitting ≡ true →
        refutes_loosely schema db query (NeedlessJoin entry) given (points_of query (NeedlessJoin entry) places fitting) ≡ true → body_holds (NeedlessJoin entry) places ≡ true
    join_rows None there refuted = join_body ∙ ap (λ b. b || two) (none_is ∙ refuted)
    join_rows (Some rows) there refuted =
        join_body
        ∙ (ap (λ b. none || b) (two_to schema db domains alike divides query fits entry (entry_low schema query entry asked) places lead given rows.0 rows.1 there refuted) ∙ or_true none)

  pub points_at : (question : Question) → is_asked schema query question ≡ true → (places : List ℕ) → Leads question places → body_holds question places ≡ true → Refuting question places
  points_at (NeedlessJoin entry) asked places lead holding = join_points entry asked places lead holding
  points_at (OneRow sub) asked places lead holding = (None, refl, plain_points (OneRow sub) asked refl places lead holding)
  points_at Empty asked places lead holding = (None, refl, plain_points Empty asked refl places lead holding)
  points_at NeedlessDistinct asked places lead holding = (None, refl, plain_points NeedlessDistinct asked refl places lead holding)
  points_at (Constant item) asked places lead holding = (None, refl, plain_points (Constant item) asked refl places lead holding)
  points_at (Duplicate item other) asked places lead holding = (None, refl, plain_points (Duplicate item other) asked refl places lead holding)
  points_at (Implied predicate) asked places lead holding = (None, refl, plain_points (Implied predicate) asked refl places lead holding)
  points_at (Impossible predicate) asked places lead holding = (None, refl, plain_points (Impossible predicate) asked refl places lead holding)
  points_at (SameRow entry other) asked places lead holding = (None, refl, plain_points (SameRow entry other) asked refl places lead holding)
  points_at (NullInNotIn sub) asked places lead holding = (None, refl, plain_points (NullInNotIn sub) asked refl places lead holding)

  pub rows_at : (question : Question) → is_asked schema query question ≡ true → (places : List ℕ) → Leads question places → (fitting : Option (ℕ × ℕ)) →
      are_there query db question fitting ≡ true → refutes_loosely schema db query question given (points_of query question places fitting) ≡ true → body_holds question places ≡ true
  rows_at (NeedlessJoin entry) asked places lead fitting there refuted = join_rows entry asked places lead fitting there refuted
  rows_at (OneRow sub) asked places lead fitting there refuted = plain_rows (OneRow sub) asked refl places lead refuted
  rows_at Empty asked places lead fitting there refuted = plain_rows Empty asked refl places lead refuted
  rows_at NeedlessDistinct asked places lead fitting there refuted = plain_rows NeedlessDistinct asked refl places lead refuted
  rows_at (Constant item) asked places lead fitting there refuted = plain_rows (Constant item) asked refl places lead refuted
  rows_at (Duplicate item other) asked places lead fitting there refuted = plain_rows (Duplicate item other) asked refl places lead refuted
  rows_at (Implied predicate) asked places lead fitting there refuted = plain_rows (Implied predicate) asked refl places lead refuted
  rows_at (Impossible predicate) asked places lead fitting there refuted = plain_rows (Impossible predicate) asked refl places lead refuted
  rows_at (SameRow entry other) asked places lead fitting there refuted = plain_rows (SameRow entry other) asked refl places lead refuted
  rows_at (NullInNotIn sub) asked places lead fitting there refuted = plain_rows (NullInNotIn sub) asked refl places lead refuted

  -- ---- the sentence

  abbrev sentence_holds : Question → Bool
  sentence_holds question = holds db (counter_sentence schema query question given) []

  pub points_of_sentence : (question : Question) → is_asked schema query question ≡ true → sentence_holds question ≡ true →
      (points : Points) × (refutes_loosely schema db query question given points ≡ true)
  points_of_sentence question asked holding =
      let lead = (counter schema query question given).lead in
      let body = (counter schema query question given).body in
      let found = rows_from db body lead [] holding in
      let refuting = points_at question asked found.0 found.1 (ap (holds db body) (leading_is lead found.0) ∙ found.2) in
      (points_of query question found.0 refuting.0, refuting.2)

  pub sentence_of_points : (question : Question) → is_asked schema query question ≡ true → (points : Points) → refutes_loosely schema db query question given points ≡ true → sentence_holds question ≡ true
  sentence_of_points question asked points refuted =
      let lead = (counter schema query question given).lead in
      let body = (counter schema query question given).body in
      let form = known_form (have_form db query question points) (clause_by db query (by_formula schema db) question given points) refuted in
      let made = back schema db query given question asked points form in
      let here : refutes_loosely schema db query question given (points_of query question made.0 made.1) ≡ true = ap (refutes_loosely schema db query question given) made.4 ∙ refuted in
      rows_to db body lead [] made.0 made.2 (sym (ap (holds db body) (leading_is lead made.0)) ∙ rows_at question asked made.0 made.2 made.1 made.3 here)
