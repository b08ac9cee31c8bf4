-- The points that the leading row terms make refute the question of the counter sentence loosely.
use Rattle.std.proofs.Common.{◌≡◌, ◌∙◌, sym, ap, refl, subst, ℕ, suc, ◌<◌, true, false, List, [], ◌∷◌, ◌++◌, length}
use Rattle.std.specs.Prelude.{Option, Some, None, slice_get, option_and_then, unwrap_or, remove}
use Rattle.std.specs.List.{list_all}
use Rattle.std.specs.Option.{option_map, option_map_or}
use Rattle.lint_core.specs.declared.database.Database.{Database}
use Rattle.lint_core.specs.declared.database.Value.{Value}
use Rattle.lint_core.specs.declared.query.Query.{Query}
use Rattle.lint_core.specs.declared.query.Question.{Question}
use Rattle.lint_core.specs.declared.query.Question.TheVariants.{OneRow, Empty, NeedlessDistinct, Constant, Duplicate, NeedlessJoin, Implied, Impossible, SameRow, NullInNotIn}
use Rattle.lint_core.specs.declared.schema.Table.{Table}
use Rattle.lint_core.specs.Asked.{is_asked, scalars_of, not_ins_of}
use Rattle.lint_core.specs.Database.{rows_of}
use Rattle.lint_core.specs.Points.{are_rows}
use Rattle.lint_core.specs.Subqueries.{Subquery}
use Rattle.sort_formula.specs.declared.formula.Formula.{Formula}
use Rattle.sort_formula.specs.CounterPoints.{are_there, points_of}
use Rattle.sort_formula.specs.Counters.{counter, counter_sentence, last_level, no_counter, selects_null, table_of_entry, two_rows}
use Rattle.sort_formula.specs.Holds.{holds}
use Rattle.sort_formula.specs.Loose.{refutes_loosely}
use Rattle.sort_formula.specs.Sides.{all_of}
use Rattle.counter_laws.specs.Joins.{is_join, both_fit, no_row_body, no_row_formula, without_formulas}
use Rattle.counter_laws.specs.LeadingRows.{leading_rows}
use Rattle.sorted_skolem.specs.declared.term.RowTerm.{RowTerm}
use Rattle.ground_theory.specs.declared.literal.Assignment.{Assignment}
use Rattle.ground_theory.specs.Assignments.{IsAssignment, satisfies_all}
use Rattle.case_split.specs.Cases.{IsFullCase}
use Rattle.case_split.specs.Choices.{Choices, literals_of}
use Rattle.instantiate.specs.declared.problem.Problem.{Problem}
use Rattle.instantiate.specs.Cases.{IsDatabaseOf}
use Rattle.instantiate.specs.Hanging.{Hanging}
use Rattle.instantiate.specs.Plain.{plain_row, PlainNodes}
use Rattle.witness_db.specs.Leading.{leading_places, place_for}
use Rattle.witness_db.specs.inner.Fitting.{own, fitting_of, lead_of, pair_node, two_places}
use Rattle.witness_db.proofs.Leads.{leading_there, body_holds, others_hold, none_fits, two_fit, pair, pair_is}

pub lead_is : (schema : List Table) (query : Query) (question : Question) (given : Value) → (counter schema query question given).lead ≡ lead_of query question
lead_is schema query (OneRow sub) given = by (slice_get (scalars_of query) sub)
  where
    by : (o : Option Subquery) → (option_map_or (two_rows schema) o no_counter).lead ≡ option_map_or (λ (s : Subquery). all_of s.tables ++ last_level s.tables) o []
    by None = refl
    by (Some s) = refl
lead_is schema query Empty given = refl
lead_is schema query NeedlessDistinct given = refl
lead_is schema query (Constant item) given = refl
lead_is schema query (Duplicate item other) given = refl
lead_is schema query (NeedlessJoin entry) given = refl
lead_is schema query (Implied predicate) given = refl
lead_is schema query (Impossible predicate) given = refl
lead_is schema query (SameRow entry other) given = refl
lead_is schema query (NullInNotIn sub) given = by (slice_get (not_ins_of query) sub)
  where
    by : (o : Option Subquery) → (option_map_or (selects_null schema) o no_counter).lead ≡ option_map_or (λ (s : Subquery). all_of s.tables) o []
    by None = refl
    by (Some s) = refl

module _ (schema : List Table) (problem : Problem) (hanging : Hanging problem) (plain : PlainNodes problem) (choices : Choices) (full : IsFullCase problem.clauses problem.frame choices)
    (a : Assignment) (is_assignment : IsAssignment problem.frame a) (satisfied : satisfies_all a (literals_of problem.clauses choices) ≡ true)
    (db : Database) (places : List (Option ℕ)) (is_database : IsDatabaseOf problem choices a db places) (query : Query) (given : Value) where
  abbrev pub terms : List RowTerm
  terms = problem.rows.terms

  abbrev pub refuted : Question → List ℕ → Option (ℕ × ℕ) → Type 0
  refuted question ps fitting = refutes_loosely schema db query question given (points_of query question ps fitting) ≡ true

  abbrev pub Leads : Question → List ℕ → Type 0
  Leads question ps = are_rows db (counter schema query question given).lead ps ≡ true

  -- what is known row by row
  pub record RowByRow : Type 0 where
    pub says : (question : Question) → is_asked schema query question ≡ true → is_join question ≡ false → (ps : List ℕ) → Leads question ps →
        holds db (counter schema query question given).body (leading_rows (counter schema query question given).lead ps)
        ≡ refutes_loosely schema db query question given (points_of query question ps None)
    pub no_row : (entry : ℕ) → is_asked schema query (NeedlessJoin entry) ≡ true → (ps : List ℕ) → Leads (NeedlessJoin entry) ps →
        holds db (no_row_body schema query entry) (leading_rows (counter schema query (NeedlessJoin entry) given).lead ps)
        ≡ refutes_loosely schema db query (NeedlessJoin entry) given (points_of query (NeedlessJoin entry) ps None)
    pub these_two : (entry : ℕ) → is_asked schema query (NeedlessJoin entry) ≡ true → (ps : List ℕ) → Leads (NeedlessJoin entry) ps →
        list_all (λ g. holds db g (leading_rows (counter schema query (NeedlessJoin entry) given).lead ps)) (without_formulas schema query entry) ≡ true →
        (x y : ℕ) → x < length (rows_of db (table_of_entry schema query entry)) → y < length (rows_of db (table_of_entry schema query entry)) →
        holds db (both_fit schema query entry)
        (leading_rows (counter schema query (NeedlessJoin entry) given).lead ps
        ++ record { table = table_of_entry schema query entry; row = x } ∷ record { table = table_of_entry schema query entry; row = y } ∷ []) ≡ true →
        (are_there query db (NeedlessJoin entry) (Some (x, y)) ≡ true) × refuted (NeedlessJoin entry) ps (Some (x, y))

  module _ (known : RowByRow) where
    plain_refuted : (question : Question) → is_asked schema query question ≡ true → is_join question ≡ false → slice_get problem.sentences 0 ≡ Some (counter_sentence schema query question given) →
        refuted question (leading_places terms places (length (lead_of query question))) None
    plain_refuted question asked unjoined at =
        let lead : List ℕ = (counter schema query question given).lead in
        let body : Formula = (counter schema query question given).body in
        subst (λ (ls : List ℕ). refuted question (leading_places terms places (length ls)) None) (lead_is schema query question given)
        (sym
        (known.says question asked unjoined (leading_places terms places (length lead))
        (leading_there problem hanging plain choices full a is_assignment satisfied db places is_database lead body at))
        ∙ body_holds problem hanging plain choices full a is_assignment satisfied db places is_database lead body at)

    -- ---- a needless join

    module _ (entry : ℕ) (asked : is_asked schema query (NeedlessJoin entry) ≡ true) (at : slice_get problem.sentences 0 ≡ Some (counter_sentence schema query (NeedlessJoin entry) given)) where
      abbrev pub lead : List ℕ
      lead = remove (own query) entry

      abbrev pub others : List Formula
      others = without_formulas schema query entry

      abbrev pub no_row : Formula
      no_row = no_row_formula schema query entry

      abbrev pub both : Formula
      both = both_fit schema query entry

      abbrev pub table : ℕ
      table = table_of_entry schema query entry

      abbrev pub own_pair : ℕ
      own_pair = pair problem hanging plain choices full a is_assignment satisfied db places is_database lead others no_row both table at

      abbrev pub own_places : List ℕ
      own_places = leading_places terms places (length lead)

      abbrev pub Refuting : Option (ℕ × ℕ) → Type 0
      Refuting fitting = (are_there query db (NeedlessJoin entry) fitting ≡ true) × refuted (NeedlessJoin entry) own_places fitting

      leads : Leads (NeedlessJoin entry) own_places
      leads = leading_there problem hanging plain choices full a is_assignment satisfied db places is_database lead (counter schema query (NeedlessJoin entry) given).body at

      no_two : option_and_then (λ (o : Option ℕ). o) (slice_get places (plain_row terms 0 own_pair)) ≡ None → Refuting None
      no_two none = (
        refl,
        sym (known.no_row entry asked own_places leads)
            ∙ none_fits problem hanging plain choices full a is_assignment satisfied db places is_database lead others no_row both table at none,
      )

      by_place : (o : Option (Option ℕ)) → slice_get places (plain_row terms 0 own_pair) ≡ o →
          Refuting (option_map (λ (row : ℕ). (row, place_for places (plain_row terms 0 (suc own_pair)))) (option_and_then (λ (o : Option ℕ). o) o))
      by_place None is = no_two (ap (option_and_then (λ (o : Option ℕ). o)) is)
      by_place (Some None) is = no_two (ap (option_and_then (λ (o : Option ℕ). o)) is)
      by_place (Some (Some row)) is =
          let two = two_fit problem hanging plain choices full a is_assignment satisfied db places is_database lead others no_row both table at row is in
          let same : place_for places (plain_row terms 0 own_pair) ≡ row = ap (λ (o : Option (Option ℕ)). unwrap_or (option_and_then (λ (o : Option ℕ). o) o) 0) is in
          known.these_two entry asked own_places leads (others_hold problem hanging plain choices full a is_assignment satisfied db places is_database lead others no_row both table at)
          row (place_for places (plain_row terms 0 (suc own_pair)))
          (subst (λ x. x < length (rows_of db table)) same two.first)
          two.second
          (subst (λ x. holds db both (leading_rows lead own_places ++ record { table = table; row = x } ∷ record { table = table; row = place_for places (plain_row terms 0 (suc own_pair)) } ∷ []) ≡ true) same two.fit)

      join_refuted : Refuting (two_places terms places (pair_node schema query entry))
      join_refuted =
          subst (λ n. Refuting (two_places terms places n))
          (pair_is problem hanging plain choices full a is_assignment satisfied db places is_database lead others no_row both table at)
          (by_place (slice_get places (plain_row terms 0 own_pair)) refl)

    abbrev pub All : Question → Type 0
    All question =
        is_asked schema query question ≡ true → slice_get problem.sentences 0 ≡ Some (counter_sentence schema query question given) →
        (are_there query db question (fitting_of schema query terms places question) ≡ true)
        × refuted question (leading_places terms places (length (lead_of query question))) (fitting_of schema query terms places question)

    pub all_refuted : (question : Question) → All question
    all_refuted (OneRow sub) asked at = (refl, plain_refuted (OneRow sub) asked refl at)
    all_refuted Empty asked at = (refl, plain_refuted Empty asked refl at)
    all_refuted NeedlessDistinct asked at = (refl, plain_refuted NeedlessDistinct asked refl at)
    all_refuted (Constant item) asked at = (refl, plain_refuted (Constant item) asked refl at)
    all_refuted (Duplicate item other) asked at = (refl, plain_refuted (Duplicate item other) asked refl at)
    all_refuted (NeedlessJoin entry) asked at = join_refuted entry asked at
    all_refuted (Implied predicate) asked at = (refl, plain_refuted (Implied predicate) asked refl at)
    all_refuted (Impossible predicate) asked at = (refl, plain_refuted (Impossible predicate) asked refl at)
    all_refuted (SameRow entry other) asked at = (refl, plain_refuted (SameRow entry other) asked refl at)
    all_refuted (NullInNotIn sub) asked at = (refl, plain_refuted (NullInNotIn sub) asked refl at)
